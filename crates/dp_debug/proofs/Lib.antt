pub mod BreakLemmas
pub mod CutLemmas
