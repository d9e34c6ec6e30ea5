-- The steps of private functions. No public clause depends on them.
pub mod Held
pub mod Loading
pub mod Places
pub mod Seats
pub mod Sifting
