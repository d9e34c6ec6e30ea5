-- The steps of private functions. No public clause depends on them.
pub mod Follows
pub mod Tables
pub mod Templates
