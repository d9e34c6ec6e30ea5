pub mod Asked
pub mod Entered
pub mod Finders
pub mod Known
pub mod Names
pub mod Tree
pub mod steps
