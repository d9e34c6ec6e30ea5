pub mod Breaks
pub mod Cut
