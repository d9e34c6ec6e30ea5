use Rattle.dp_pattern.specs.Classes.{has_member}
use Rattle.dp_pattern.proofs.MemberLemmas.{AreLevel}
use Rattle.dp_pattern.proofs.class_members.compare_members.Given as goal

abbrev pub invariant-loop-byte : goal.invariant-loop-byte
invariant-loop-byte l = AreLevel (has_member l.left) (has_member l.right) l.byte
