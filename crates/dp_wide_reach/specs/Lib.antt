pub mod Choices
pub mod Settings
pub mod Subroutines
pub mod Wide
