use Rattle.std.proofs.Common.{◌≡◌, ◌++◌}
use Rattle.dp_pattern.specs.Classes.{members_in}
use Rattle.dp_pattern.proofs.words.push_word.Given as goal

abbrev pub invariant-loop-left : goal.invariant-loop-left
invariant-loop-left l =
    l.bytes.items ++ members_in l.left l.first ≡ l.fn.bytes.items ++ members_in l.word l.first

abbrev pub decreases-loop-left : goal.decreases-loop-left
decreases-loop-left l = l.left
