-- Proofs of the ghost members of sinks, which are here because these members name them.
pub mod Flows
pub mod Spools
