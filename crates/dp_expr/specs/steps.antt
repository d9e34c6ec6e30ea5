-- The steps of private functions. No public clause depends on them.
pub mod Exact
pub mod Frames
pub mod Held
pub mod Places
pub mod Seen
pub mod Stacks
pub mod Texts
