pub mod CommandLine
pub mod Refusals
pub mod Status
pub mod steps
