use Rattle.std.proofs.Common.{◌≡◌, ℕ, List, map, take}
use Rattle.dp_trie.specs.steps.Labels.{held_of, holders_named}
use Rattle.dp_trie.specs.steps.Ranked.{known_now}
use Rattle.dp_trie.proofs.labels.Labels.of.Given as goal

abbrev pub invariant-loop-one : goal.invariant-loop-one
invariant-loop-one l = (label : List ℕ) → held_of l.labels label ≡ holders_named label (map known_now (take l.one-index l.ranked))
