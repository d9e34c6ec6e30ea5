use Rattle.std.proofs.Common.{◌≡◌, ◌++◌, length}
use Rattle.dp_conf.specs.Escape.{escape_text}
use Rattle.dp_conf.proofs.escaping.push_escaped.Given as goal

abbrev pub invariant-loop-part : goal.invariant-loop-part
invariant-loop-part l = l.out.items ++ escape_text l.left ≡ l.initial.out.items ++ escape_text l.fn.text

abbrev pub decreases-loop-part : goal.decreases-loop-part
decreases-loop-part l = length l.left
