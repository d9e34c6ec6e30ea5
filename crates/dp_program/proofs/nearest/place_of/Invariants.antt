use Rattle.std.proofs.Common.{◌≡◌, ◌+◌, drop}
use Rattle.dp_program.specs.Nearest.{place_of}
use Rattle.dp_program.proofs.nearest.place_of.Given as goal

abbrev pub invariant-loop-near : goal.invariant-loop-near
invariant-loop-near l = record {
  place : l.place + place_of (drop l.near-index l.kept) l.distance ≡ place_of l.kept l.distance;
  passed : l.place ≡ l.near-index;
}
