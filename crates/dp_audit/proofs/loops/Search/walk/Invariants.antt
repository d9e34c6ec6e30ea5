use Rattle.std.proofs.Common.{◌≡◌}
use Rattle.dp_audit.specs.Loops.{successor}
use Rattle.dp_audit.specs.steps.Marks.{Adds, unmarked_count}
use Rattle.dp_audit.specs.steps.Walks.{IsWalk}
use Rattle.dp_audit.proofs.loops.Search.walk.Given as goal

abbrev pub invariant-loop-id : goal.invariant-loop-id
invariant-loop-id g l = record {
  walk : IsWalk (successor g.N.OnwardNames.onward l.initial.finder) l.fn.start l.self.path.items l.end;
  seen : Adds l.fn.self.seen l.self.path.items l.self.seen;
  firsts : l.self.firsts ≡ l.fn.self.firsts;
  same : l.finder ≡ l.initial.finder;
}

abbrev pub decreases-loop-id : goal.decreases-loop-id
decreases-loop-id g l = unmarked_count l.self.seen
