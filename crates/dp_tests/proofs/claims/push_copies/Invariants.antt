use Rattle.std.proofs.Common.{◌≡◌, ◌++◌, drop, map}
use Rattle.dp_tests.proofs.claims.push_copies.Given as goal

abbrev pub invariant-loop-word : goal.invariant-loop-word
invariant-loop-word l =
    l.agents ++ map (λ word. word.now) (drop l.word-index l.words) ≡ l.fn.agents ++ map (λ word. word.now) l.words
