pub mod BuildLemmas
pub mod DigitLemmas
pub mod EnteredLemmas
pub mod KeepLemmas
pub mod LabelLemmas
pub mod LeapLemmas
pub mod LinkLemmas
pub mod MatchLemmas
pub mod OrdersLemmas
pub mod PlainLemmas
pub mod PointLemmas
pub mod RisingLemmas
pub mod TableLemmas
pub mod TreeLemmas
pub mod WalkLemmas
mod cases
