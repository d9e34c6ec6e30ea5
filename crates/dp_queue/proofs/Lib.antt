pub mod AgentLemmas
pub mod ChangeLemmas
pub mod FoundLemmas
pub mod GoodLemmas
pub mod HeldLemmas
pub mod KeptLemmas
mod LoadingLemmas
pub mod MemberLemmas
pub mod NameLemmas
pub mod OfferLemmas
pub mod PlacesLemmas
pub mod RefusedLemmas
pub mod RestLemmas
mod SiftingLemmas
pub mod StandsLemmas
pub mod TalkLemmas
pub mod WaitingLemmas
pub mod WordLemmas
mod cases
