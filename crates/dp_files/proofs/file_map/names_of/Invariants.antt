use Rattle.std.proofs.Common.{◌≡◌, ◌++◌, drop}
use Rattle.dp_files.specs.FileMaps.{names_in}
use Rattle.dp_files.proofs.file_map.names_of.Given as goal

abbrev pub invariant-loop-file : goal.invariant-loop-file
invariant-loop-file l = l.names.items ++ names_in (drop l.file-index l.files) l.pattern ≡ names_in l.files l.pattern
