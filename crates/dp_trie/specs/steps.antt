-- The steps of private functions. No public clause depends on them.
pub mod Digits
pub mod Labels
pub mod Leaps
pub mod Ranked
