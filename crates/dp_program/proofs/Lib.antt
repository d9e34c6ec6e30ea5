mod ChecksLemmas
mod DialplanLemmas
mod DiffLemmas
mod EntriesLemmas
mod GraphLemmas
mod HintsLemmas
mod NearestLemmas
mod OnFilesLemmas
mod PathsLemmas
mod PlanQuestionLemmas
mod QueueLemmas
mod ReachDiffLemmas
mod ReachesLemmas
mod ReadsLemmas
mod RunLemmas
pub mod ServesLemmas
mod TestLemmas
