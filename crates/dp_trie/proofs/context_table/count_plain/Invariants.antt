use Rattle.std.proofs.Common.{◌≤◌, ◌-◌, length, take}
use Rattle.std.specs.List.{AllByRecursion}
use Rattle.dp_trie.specs.steps.Ranked.{known_now, IsPlain}
use Rattle.dp_trie.specs.declared.ranked.Ranked.{Ranked}
use Rattle.dp_trie.proofs.context_table.count_plain.Given as goal

abbrev pub invariant-loop-one : goal.invariant-loop-one
invariant-loop-one l = record {
  within : l.count ≤ length l.ranked;
  plain : AllByRecursion (λ (r : Ranked). IsPlain (known_now r).name) (take l.count l.ranked);
}

abbrev pub decreases-loop-one : goal.decreases-loop-one
decreases-loop-one l = length l.ranked - l.count
