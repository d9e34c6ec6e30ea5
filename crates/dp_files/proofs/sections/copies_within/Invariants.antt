use Rattle.std.proofs.Common.{◌≡◌, ◌≤◌, ◌++◌, drop, vec_len}
use Rattle.std.specs.List.{flat_map}
use Rattle.dp_files.specs.Sections.{lines_at}
use Rattle.dp_files.proofs.sections.copies_within.Given as goal

abbrev pub invariant-loop-place : goal.invariant-loop-place
invariant-loop-place l = record {
  within : vec_len l.copies ≤ l.room;
  whole : l.copies.items ++ flat_map (lines_at l.sections) (drop l.place-index l.places) ≡ flat_map (lines_at l.sections) l.places;
}
