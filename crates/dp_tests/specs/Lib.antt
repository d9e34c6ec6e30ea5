pub mod Expectations
pub mod Faults
pub mod Files
pub mod Meanings
pub mod steps
