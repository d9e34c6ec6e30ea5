use Rattle.std.proofs.Common.{◌∙◌, ℕ, List, ap, subst}
use Rattle.std.specs.Io.KnownBytes.{Appends}
use Rattle.dp_diff.specs.steps.Telling.{SheetOf}
use Rattle.dp_diff.proofs.TellingLemmas.{told_sent}
use Rattle.dp_diff.proofs.sheet.Sheet.send.Goals as goal

-- all that waited is written
pub returns-clause-tells : goal.returns-clause-tells
returns-clause-tells g c =
    let contents = g.W.WriteTold.contents in
    let failed = g.W.WriteTold.has_failed in
    let P : List ℕ → Type 0 = λ bytes. Appends (contents c.args.writer.now) (contents c.write_told.new.self) bytes in
    let wrote = subst P (c.deref.ensures.value ∙ ap (λ (s : SheetOf). s.waiting) c.self.view_is) c.in_ok-write_told.ensures.ok in
    told_sent (contents c.args.writer.now) (contents c.write_told.new.self) (failed c.args.writer.now) (failed c.write_told.new.self)
    c.args.self.now _ wrote c.clear.ensures.items (ap (λ (s : SheetOf). s.count) c.self.view_is) c.in_ok-write_told.ensures.told
