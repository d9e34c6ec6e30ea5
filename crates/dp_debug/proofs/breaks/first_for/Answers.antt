use Rattle.std.proofs.Common.{ap, ◌∙◌}
use Rattle.std.specs.List.{position}
use Rattle.dp_machine.specs.World.{World}
use Rattle.dp_debug.specs.Breaks.{holds_at}
use Rattle.dp_debug.proofs.BreakLemmas.{first_for-by}
use Rattle.dp_debug.proofs.breaks.first_for.Goals as goal

pub returns-clause-first : goal.returns-clause-first
returns-clause-first g c =
    c.first_at.ensures
    ∙ (ap (λ (w : World). position (holds_at w c.args.channel c.entry_for-entry.result) c.args.breaks.now) c.entry_for-entry.ensures.same
    ∙ first_for-by c.args.machine.now c.args.channel c.entry_for-entry.result c.args.breaks.now c.entry_for-entry.ensures.entry)
