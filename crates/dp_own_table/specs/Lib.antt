pub mod OwnFunctions
pub mod OwnKnowledge
pub mod OwnTable
