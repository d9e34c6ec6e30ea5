mod AnswerLemmas
mod HeadLemmas
mod RangeLemmas
mod ReachAnswerLemmas
mod ReachedLemmas
mod ReportLemmas
