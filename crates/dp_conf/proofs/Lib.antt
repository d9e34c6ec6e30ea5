pub mod AnswersLemmas
mod CutLemmas
pub mod ChangesLemmas
pub mod EscapeLemmas
mod EscapeParts
pub mod LevelLemmas
pub mod LinesKnown
pub mod LinesLemmas
pub mod TakingLemmas
pub mod ToldLemmas
mod TrimLemmas
pub mod GroupsLemmas
pub mod NestLemmas
mod PlainNest
pub mod TextLemmas
mod cases
