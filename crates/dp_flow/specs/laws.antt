-- Proofs of what the ghost members of applications and tables say. They are here because these members name them.
pub mod Lawful
