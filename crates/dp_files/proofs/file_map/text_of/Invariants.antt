use Rattle.std.proofs.Common.{◌≡◌, drop}
use Rattle.dp_files.specs.FileMaps.{text_in}
use Rattle.dp_files.proofs.file_map.text_of.Given as goal

abbrev pub invariant-loop-file : goal.invariant-loop-file
invariant-loop-file l = text_in (drop l.file-index l.files) l.name ≡ text_in l.files l.name
