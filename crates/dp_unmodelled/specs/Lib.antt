pub mod Meeting
pub mod Modelled
pub mod Report
