use Rattle.std.proofs.Common.{◌≡◌, map, take}
use Rattle.std.specs.Prelude.{filter_map}
use Rattle.dp_trie.specs.Known.{known_at}
use Rattle.dp_trie.specs.steps.Ranked.{known_now}
use Rattle.dp_trie.proofs.ranked.rank.Given as goal

abbrev pub invariant-loop-id : goal.invariant-loop-id
invariant-loop-id l = map known_now l.ranked.items ≡ filter_map (known_at l.plan) (take l.id-index l.ids)
