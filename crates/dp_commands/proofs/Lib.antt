mod DashesLemmas
mod DealLemmas
mod DebugLemmas
mod JoinedLemmas
mod ScriptLemmas
mod RunnersLemmas
mod SpoolLemmas
mod StreamsLemmas
pub mod TextsLemmas
mod ThreadsLemmas
mod VerboseLemmas
