-- The steps of private functions. No public clause depends on them.
pub mod Deals
pub mod Runners
pub mod Spools
pub mod Streams
pub mod Texts
