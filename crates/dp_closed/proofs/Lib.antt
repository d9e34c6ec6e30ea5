pub mod SetLemmas
pub mod KnownLemmas
pub mod ReachLemmas
pub mod FoundLemmas
pub mod ClaimLemmas
pub mod MarkLemmas
pub mod ClosedLemmas
pub mod AuditLemmas
