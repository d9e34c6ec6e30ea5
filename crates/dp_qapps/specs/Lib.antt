pub mod Membership
pub mod Pausing
pub mod Queueing
pub mod Reports
pub mod Touches
pub mod laws
