-- The steps of private functions. No public clause depends on them.
pub mod Callers
pub mod Far
pub mod PartsLeft
pub mod PlacedApplications
pub mod Plain
