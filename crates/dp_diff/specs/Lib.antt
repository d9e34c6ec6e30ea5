pub mod Alike
pub mod Answering
pub mod Differences
pub mod Faults
pub mod Printing
pub mod Reaches
pub mod steps
