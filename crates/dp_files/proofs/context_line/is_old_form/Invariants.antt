use Rattle.std.proofs.Common.{◌≡◌, length}
use Rattle.dp_files.specs.ContextWords.{is_old_form}
use Rattle.dp_files.proofs.context_line.is_old_form.Given as goal

-- what is left has the old form if the application has
abbrev pub invariant-loop-byte : goal.invariant-loop-byte
invariant-loop-byte l = is_old_form l.left ≡ is_old_form l.application

abbrev pub decreases-loop-byte : goal.decreases-loop-byte
decreases-loop-byte l = length l.left
