use Rattle.std.proofs.Common.{◌≡◌, ◌≤◌, vec_len, vec_capacity}
use Rattle.dp_lookup.specs.steps.Filling.{pending}
use Rattle.dp_lookup.proofs.visit.next_include.Given as goal

abbrev pub invariant-loop-frame : goal.invariant-loop-frame
invariant-loop-frame l = record {
  same : pending l.plan l.frames.items ≡ pending l.plan l.initial.frames.items;
  capacity : vec_capacity l.frames ≡ vec_capacity l.initial.frames;
  short : vec_len l.frames ≤ vec_len l.initial.frames;
}

abbrev pub decreases-loop-frame : goal.decreases-loop-frame
decreases-loop-frame l = vec_len l.frames
