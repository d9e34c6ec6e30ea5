mod LinesLemmas
mod NoticesLemmas
mod ReachesLemmas
mod ReadingLemmas
mod StringLemmas
mod Utf8Lemmas
