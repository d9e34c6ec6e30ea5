pub mod DifferenceLemmas
pub mod HistoryLemmas
pub mod LogLemmas
pub mod PlacesLemmas
pub mod PresenceLemmas
pub mod SettledLemmas
pub mod StepsLemmas
