mod AdditionLemmas
mod ApartLemmas
mod ClaimLemmas
pub mod DraftLemmas
mod EntryKnown
pub mod EntryLemmas
pub mod HistoryLemmas
pub mod ItemWords
pub mod ItemsKnown
pub mod LoadedLemmas
mod LinedLemmas
mod LoadingLemmas
mod MeaningLemmas
pub mod NamedLemmas
mod NumberedLemmas
pub mod PartsKnown
mod NumberingLemmas
mod PlaceLemmas
mod PositionLemmas
pub mod RankingLemmas
mod SiftingLemmas
mod TableLemmas
mod cases
