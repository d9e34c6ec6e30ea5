use Rattle.std.proofs.Common.{◌≡◌, map, take}
use Rattle.dp_trie.specs.steps.Ranked.{known_now, hold_of}
use Rattle.dp_trie.proofs.ranked.hold_all.Given as goal

abbrev pub invariant-loop-one : goal.invariant-loop-one
invariant-loop-one l = l.held.items ≡ map hold_of (map known_now (take l.one-index l.ranked))
