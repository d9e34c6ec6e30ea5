mod Reducing
mod Completeness
mod Soundness
mod Making
pub mod OverLemmas
mod QuotientsLemmas
pub mod Readings
pub mod AsteriskReadings
pub mod TokensLemmas
pub mod MarksLemmas
pub mod NumbersLemmas
pub mod TextsLemmas
pub mod FramesLemmas
mod cases
