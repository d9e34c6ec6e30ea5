-- All differences, written to the end.
use Rattle.std.proofs.Common.{◌≡◌, ℕ, ◌-◌, ◌^◌, List, [], ◌++◌, length, min, ap, subst, ◌∙◌, zero-add}
use Rattle.std.specs.Io.KnownBytes.{Appends}
use Rattle.std.proofs.lemmas.List.{append-nil}
use Rattle.dp_conf.specs.Fronts.{AppendsFront}
use Rattle.dp_diff.specs.Differences.{Difference}
use Rattle.dp_diff.specs.Printing.{text_of}
use Rattle.dp_diff.specs.declared.fault.DiffFault.{DiffFault}
use Rattle.dp_diff.specs.steps.Telling.{Flows, HasFailed, HasTold, SheetOf, WriterOf, capped_number}
use Rattle.dp_diff.proofs.FlowLemmas.{Flows-whole}
use Rattle.dp_diff.proofs.TellingLemmas.{failed_after, told_append}

abbrev pub blank : SheetOf
blank = record { waiting = []; count = 0 }

module _ (w v u : WriterOf) (s t : SheetOf) (ds : List Difference) (start : s ≡ blank) (told : HasTold w s v t ds) where
  -- nothing waits at the end
  pub written_whole : (r : SheetOf) → HasTold v t u r [] → r.waiting ≡ [] → Appends w.contents u.contents (text_of ds)
  written_whole r sent empty =
      let P : List Difference → Type 0 = λ all. HasTold w s u r all in
      let whole = subst P (append-nil ds) (told_append w v u s t r ds [] told sent) in
      let Q : List ℕ → Type 0 = λ waits. Flows w.contents [] u.contents waits (text_of ds) in
      let R : SheetOf → Type 0 = λ sheet. Flows w.contents sheet.waiting u.contents r.waiting (text_of ds) in
      Flows-whole w.contents u.contents (text_of ds) (subst Q empty (subst R start whole.flowed))

  -- each difference is counted
  pub counted_whole : (r : SheetOf) → HasTold v t u r [] → r.count ≡ min (length ds) (2 ^ 64 - 1)
  counted_whole r sent =
      let P : List Difference → Type 0 = λ all. HasTold w s u r all in
      let whole = subst P (append-nil ds) (told_append w v u s t r ds [] told sent) in
      whole.counted 0 (ap (λ (sheet : SheetOf). sheet.count) start) ∙ ap capped_number (zero-add (length ds))

  -- the last write fails
  pub written_short : (fault : DiffFault) → HasFailed v t u [] fault → AppendsFront w.contents u.contents (text_of ds)
  written_short fault failed =
      let P : List Difference → Type 0 = λ all. HasFailed w s u all fault in
      let R : SheetOf → Type 0 = λ sheet. AppendsFront w.contents u.contents (sheet.waiting ++ text_of ds) in
      let short = subst P (append-nil ds) (failed_after w v u s t ds [] fault told failed) in
      subst R start short.written
