-- The steps of private functions. No public clause depends on them.
pub mod ContextName
pub mod Draft
pub mod ItemFaults
pub mod KnownApplications
pub mod Loading
pub mod Numbers
pub mod Open
pub mod Places
pub mod Reader
pub mod SharedName
pub mod Sifting
pub mod Table
