mod GlanceLemmas
mod LoadingLemmas
mod MacroLemmas
mod PlainLemmas
