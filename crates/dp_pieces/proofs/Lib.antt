pub mod WithinLemmas
mod BitLemmas
mod EndLemmas
pub mod NumeralLemmas
pub mod ExpressionLemmas
pub mod BlankLemmas
pub mod FitsLemmas
pub mod FittingLemmas
pub mod TextLemmas
pub mod ReaderLemmas
pub mod OnWay
pub mod ShownLemmas
pub mod TrimmedLemmas
pub mod ArgumentLemmas
pub mod CutLemmas
pub mod LastLemmas
pub mod NameTableLemmas
pub mod PartLemmas
pub mod RuleLemmas
pub mod SoftLemmas
pub mod MetLemmas
pub mod ShapeLemmas
pub mod TakesLemmas
mod WordLemmas
pub mod AlwaysFitsLemmas
pub mod FarLemmas
pub mod SetLemmas
