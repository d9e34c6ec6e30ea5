pub mod Kept
pub mod Reloads
