-- The steps by which functions of this crate reach what the definitions say.
pub mod Runs
