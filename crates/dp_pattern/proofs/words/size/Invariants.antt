use Rattle.std.proofs.Common.{◌≡◌, ◌+◌, ◌*◌, ◌≤◌, length}
use Rattle.dp_pattern.specs.Classes.{has_bit, members_of}
use Rattle.dp_pattern.proofs.MemberLemmas.{members_from}
use Rattle.dp_pattern.proofs.words.size.Given as goal

abbrev pub invariant-loop-word : goal.invariant-loop-word
invariant-loop-word l = record {
  bound : l.count ≤ 64 * l.word-index;
  whole : l.count + length (members_from (has_bit l.words) (64 * l.word-index)) ≡ length (members_of l.words);
}
