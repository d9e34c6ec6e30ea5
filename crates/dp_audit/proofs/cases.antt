mod FallThroughs
mod Findings
mod Loops
mod Matched
pub mod Plans
