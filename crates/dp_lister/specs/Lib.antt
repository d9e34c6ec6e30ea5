pub use Rattle.dp_conf.specs.Escape
pub use Rattle.dp_plan.specs.Plan
pub mod Again
pub mod Listing
pub mod Sinks
pub mod laws
pub mod steps
