use Rattle.std.proofs.Common.{◌≡◌, ◌++◌, drop}
use Rattle.std.specs.List.{flat_map}
use Rattle.dp_test_runs.specs.Tap.{comment_line}
use Rattle.dp_test_runs.proofs.tap.push_comments.Given as goal

abbrev pub invariant-loop-text : goal.invariant-loop-text
invariant-loop-text l = l.out.items ++ flat_map comment_line (drop l.text-index l.texts) ≡ l.fn.out.items ++ flat_map comment_line l.texts
