mod AnswerLemmas
mod MatchesLemmas
mod RefusalsLemmas
mod cases
