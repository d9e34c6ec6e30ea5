-- The steps of private functions. No public clause depends on them.
pub mod Firsts
pub mod Hiding
pub mod Marks
pub mod Neighbours
pub mod Scene
pub mod Walks
