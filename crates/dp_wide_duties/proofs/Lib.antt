pub mod DeviceLemmas
pub mod FrontLemmas
pub mod LeadingLemmas
pub mod OptionLemmas
