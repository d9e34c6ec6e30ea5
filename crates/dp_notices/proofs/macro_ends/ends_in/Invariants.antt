use Rattle.std.proofs.Common.{◌≡◌}
use Rattle.std.specs.List.{flat_map}
use Rattle.dp_notices.specs.MacroEnds.{end_at}
use Rattle.dp_plan.specs.Ranking.{numbers_of}
use Rattle.dp_notices.proofs.macro_ends.ends_in.Given as goal

abbrev pub invariant-loop-entry : goal.invariant-loop-entry
invariant-loop-entry l =
    l.ends.items ≡ flat_map (end_at l.loaded.plan l.loaded.lines l.order.contexts) (numbers_of l.number l.entry)
