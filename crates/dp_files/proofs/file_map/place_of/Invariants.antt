use Rattle.std.proofs.Common.{◌≡◌, ◌+◌, drop}
use Rattle.dp_files.specs.FileMaps.{place_in}
use Rattle.dp_files.proofs.file_map.place_of.Given as goal

abbrev pub invariant-loop-at : goal.invariant-loop-at
invariant-loop-at l = place_in l.name l.files ≡ l.at + place_in l.name (drop l.at l.files)
