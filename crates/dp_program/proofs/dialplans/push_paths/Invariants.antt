use Rattle.std.proofs.Common.{◌≡◌, ◌++◌, drop, map}
use Rattle.dp_program.specs.Dialplans.{path_in}
use Rattle.dp_program.proofs.dialplans.push_paths.Given as goal

abbrev pub invariant-loop-file : goal.invariant-loop-file
invariant-loop-file l = l.paths.items ++ map (path_in l.first) (drop l.file-index l.files) ≡ l.fn.paths.items ++ map (path_in l.first) l.files
