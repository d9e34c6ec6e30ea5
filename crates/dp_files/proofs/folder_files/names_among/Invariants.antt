use Rattle.std.proofs.Common.{◌≡◌, ◌++◌, drop}
use Rattle.dp_files.specs.FolderFiles.{names_among}
use Rattle.dp_files.proofs.folder_files.names_among.Given as goal

-- the names so far, with those among the rest
abbrev pub invariant-loop-part : goal.invariant-loop-part
invariant-loop-part l = l.names.items ++ names_among l.pattern (drop l.part-index l.found) ≡ names_among l.pattern l.found
