pub mod Found
pub mod FoundEntry
pub mod SearchOrder
pub mod steps
