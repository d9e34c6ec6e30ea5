pub mod Answers
pub mod Claimed
pub mod Found
pub mod Owed
pub mod Reach
pub mod Rows
pub mod Shown
pub mod Steps
