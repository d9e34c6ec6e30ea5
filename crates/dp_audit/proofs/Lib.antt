pub mod CandidatesLemmas
pub mod CandidatesOrder
mod CycleLemmas
pub mod FallThroughsLemmas
pub mod FindingsLemmas
mod HiddenLemmas
pub mod HidingLemmas
pub mod LabelsLemmas
pub mod LeastLemmas
pub mod MarksLemmas
mod NeighbourLemmas
pub mod OrderLemmas
pub mod OrderOfFile
pub mod PiecesLemmas
pub mod RunsLemmas
pub mod SearchLemmas
pub mod TargetsLemmas
pub mod UnsetLemmas
pub mod WalkLemmas
mod cases
