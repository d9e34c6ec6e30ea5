use Rattle.std.proofs.Common.{◌≡◌, ◌+◌, drop}
use Rattle.dp_files.specs.Directives.{word_length}
use Rattle.dp_files.proofs.directive.word_length.Given as goal

abbrev pub invariant-loop-at : goal.invariant-loop-at
invariant-loop-at l = word_length l.text ≡ l.at + word_length (drop l.at l.text)
