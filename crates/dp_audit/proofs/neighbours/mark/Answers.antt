use Rattle.std.proofs.Common.{true, Option, refl, sym, ap, ◌∙◌, arith}
use Rattle.std.specs.Prelude.{slice_set}
use Rattle.std.specs.Option.{option_map_or}
use Rattle.std.proofs.lemmas.Option.{slice_get_read, slice_get_past}
use Rattle.dp_plan.specs.declared.entry.EntryId.{EntryId}
use Rattle.dp_audit.proofs.NeighbourLemmas.{set_past}
use Rattle.dp_audit.proofs.neighbours.mark.Goals as goal

pub returns-else-id-marks : goal.returns-else-id-marks
returns-else-id-marks c =
    let found = c.in-Some.ensures.lookup.3 in
    let here = slice_get_read c.args.ids.now _ c.args.place c.in-Some.id.now refl found.0 (found.1 c.in-Some.id.now) in
    sym (ap (λ (o : Option EntryId). option_map_or (λ (id : EntryId). slice_set c.args.marks.now id.entry true) o c.args.marks.now) here
    ∙ set_past c.args.marks.now c.in-Some.id.now.entry (omega arith))

pub returns-in_default : goal.returns-in_default
returns-in_default c =
    sym (ap (λ (o : Option EntryId). option_map_or (λ (id : EntryId). slice_set c.args.marks.now id.entry true) o c.args.marks.now)
    (slice_get_past c.args.ids.now c.args.place c.in_default.ensures.lookup.3))
