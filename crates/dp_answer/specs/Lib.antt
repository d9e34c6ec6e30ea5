pub mod Asks
pub mod RangeSteps
pub mod Ranges
pub mod ReachAnswers
pub mod Reached
pub mod Reports
pub mod Steps
