pub mod Canonical
pub mod EntryAgain
mod EscapeParts
pub mod ItemsAgain
pub mod LinesAgain
pub mod ListingAgain
pub mod ListingLemmas
mod PiecesLemmas
pub mod PlanAgain
pub mod PlanKnown
mod SinkLemmas
