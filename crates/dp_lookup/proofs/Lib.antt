pub mod FillingLemmas
pub mod FoundLemmas
pub mod QuestionsLemmas
pub mod RankedLemmas
pub mod SeenLemmas
pub mod VisitLemmas
mod cases
