pub mod ClassLemmas
pub mod DashLemmas
pub mod GoesOnLemmas
pub mod ItemLemmas
pub mod KeptLemmas
pub mod OrderLemmas
pub mod PieceLemmas
pub mod SpelledBytes
pub mod SpellingLemmas
pub mod WalkLemmas
pub mod MemberLemmas
pub mod NameLemmas
pub mod MeaningLemmas
pub mod WordLemmas
pub mod SetLemmas
mod cases
