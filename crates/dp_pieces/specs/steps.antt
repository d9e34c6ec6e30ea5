-- The steps of private functions. No public clause depends on them.
pub mod Reader
pub mod ReadSoFar
pub mod Stands
pub mod Softened
