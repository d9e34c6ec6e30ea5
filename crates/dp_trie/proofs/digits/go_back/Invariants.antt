use Rattle.dp_trie.specs.steps.Digits.{Stands}
use Rattle.dp_trie.proofs.digits.go_back.Given as goal

abbrev pub invariant-loop-cursor : goal.invariant-loop-cursor
invariant-loop-cursor l = Stands l.text l.cursor

abbrev pub decreases-loop-cursor : goal.decreases-loop-cursor
decreases-loop-cursor l = l.cursor.place
