mod ArrowLemmas
mod JumpsLemmas
mod LabelLemmas
mod MissingLemmas
mod OnceLemmas
mod RangeLemmas
