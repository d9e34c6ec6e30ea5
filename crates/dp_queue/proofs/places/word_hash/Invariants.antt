use Rattle.std.proofs.Common.{◌≡◌, take, fold}
use Rattle.std.specs.Hash.FoldHasher.{initial}
use Rattle.dp_queue.specs.steps.Places.{with_letter}
use Rattle.dp_queue.proofs.places.word_hash.Given as goal

abbrev pub invariant-loop-letter : goal.invariant-loop-letter
invariant-loop-letter l = l.hasher ≡ fold with_letter initial (take l.letter-index l.word)
