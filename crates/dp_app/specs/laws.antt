-- Proofs of the ghost members of applications and tables, which are here because these members name them.
pub mod Keeping
pub mod StoreKept
