use Rattle.std.proofs.Common.{◌+◌, Bool, List, sym, subst}
use Rattle.dp_audit.specs.steps.Neighbours.{AreAfter}
use Rattle.dp_audit.proofs.NeighbourLemmas.{AreAfter-none, AreAfter-more}
use Rattle.dp_audit.proofs.neighbours.mark_all.Goals as goal

pub loop-place-init : goal.loop-place-init
loop-place-init c = AreAfter-none c.args.entries.now c.args.ids.now c.args.shift c.args.marks.now c.requires.none

pub loop-place-preserved : goal.loop-place-preserved
loop-place-preserved c =
    subst (λ (marks : List Bool). AreAfter c.args.entries.now c.args.ids.now c.args.shift (c.loop-place.place + 1) marks) (sym c.mark_after.ensures)
    (AreAfter-more c.args.entries.now c.args.ids.now c.args.shift c.loop-place.place c.loop-place.marks c.loop-place.invariant)
