mod CaseLemmas
pub mod CellLemmas
pub mod CutLemmas
pub mod ExpansionLemmas
pub mod FieldLemmas
mod NameLemmas
pub mod TableLemmas
