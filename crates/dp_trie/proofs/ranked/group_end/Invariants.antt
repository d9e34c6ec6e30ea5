use Rattle.std.proofs.Common.{◌-◌, length, map}
use Rattle.dp_trie.specs.steps.Ranked.{known_now, IsGroup}
use Rattle.dp_trie.proofs.ranked.group_end.Given as goal

abbrev pub invariant-loop-next : goal.invariant-loop-next
invariant-loop-next l = IsGroup (map known_now l.ranked) l.from l.until l.name

abbrev pub decreases-loop-next : goal.decreases-loop-next
decreases-loop-next l = length l.ranked - l.until
