use Rattle.std.proofs.Common.{◌≡◌, length}
use Rattle.dp_vars.proofs.store.Store.drop_frames.Given as goal

abbrev pub invariant-loop : goal.invariant-loop
invariant-loop g l = record {
  variables : l.self.variables ≡ l.initial.self.variables;
  names : l.self.names ≡ l.initial.self.names;
}

abbrev pub decreases-loop : goal.decreases-loop
decreases-loop g l = length l.self.frames
