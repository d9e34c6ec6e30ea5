use Rattle.std.proofs.Common.{◌≡◌, ◌++◌, ◌*◌}
use Rattle.dp_pattern.specs.Classes.{has_bit, members_of}
use Rattle.dp_pattern.proofs.MemberLemmas.{members_from}
use Rattle.dp_pattern.proofs.words.push_members.Given as goal

abbrev pub invariant-loop-place : goal.invariant-loop-place
invariant-loop-place l =
    l.bytes.items ++ members_from (has_bit l.words) (64 * l.place) ≡ l.fn.bytes.items ++ members_of l.words
