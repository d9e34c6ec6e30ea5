pub mod CommentsLemmas
pub mod DirectivesLemmas
pub mod FileMapsLemmas
mod DigitsLemmas
mod FolderFilesLemmas
mod HeaderLemmas
mod HistoryLemmas
mod LabelLemmas
mod LimitLemmas
mod LookupLemmas
mod OldFormLemmas
mod OrderLemmas
mod PlainLemmas
pub mod PlainFilesLemmas
pub mod ReadingLemmas
mod SectionLemmas
mod SimpleLemmas
mod SpelledLemmas
pub mod WildcardsLemmas
mod cases
