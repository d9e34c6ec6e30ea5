-- The steps of private functions. No public clause depends on them.
pub mod Growing
