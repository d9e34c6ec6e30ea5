-- The steps of private functions. No public clause depends on them.
pub mod Bindings
pub mod Expanding
pub mod Pieces
pub mod Spans
pub mod Tables
pub mod Told
