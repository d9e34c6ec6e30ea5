mod BracketsLemmas
pub mod CallsLemmas
mod KindsLemmas
mod NamesLemmas
mod NestedLemmas
mod PartsLemmas
mod ReadNamesLemmas
mod PlacedLemmas
mod WordsLemmas
mod cases
