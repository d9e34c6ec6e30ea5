use Rattle.std.proofs.Common.{◌++◌, List, drop, map}
use Rattle.dp_program.specs.TestTexts.{FailsAmong, GiveAll, TestText, text_in}
use Rattle.dp_program.specs.declared.fault_places.Unread.{Unread}
use Rattle.dp_program.proofs.texts.read_all.Given as goal

-- what follows from the paths left follows from all paths
abbrev pub invariant-loop-path : goal.invariant-loop-path
invariant-loop-path g l = record {
  gives : (texts : List TestText) → GiveAll (g.F.ReadFiles.source_at l.files) (map (λ path. path.now) (drop l.path-index l.paths)) texts
      → GiveAll (g.F.ReadFiles.source_at l.files) (map (λ path. path.now) l.paths) (map text_in l.texts.items ++ texts);
  fails : (unread : Unread) → FailsAmong (g.F.ReadFiles.source_at l.files) (map (λ path. path.now) (drop l.path-index l.paths)) unread
      → FailsAmong (g.F.ReadFiles.source_at l.files) (map (λ path. path.now) l.paths) unread;
}
