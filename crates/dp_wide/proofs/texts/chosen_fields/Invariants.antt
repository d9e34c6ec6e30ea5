use Rattle.std.proofs.Common.{◌≡◌, ◌≤◌, ◌+◌, ◌++◌, length, map}
use Rattle.dp_wide.specs.Texts.{chosen_from, parts_of}
use Rattle.dp_wide.proofs.PartsLemmas.{parts_left, left_len}
use Rattle.dp_wide.proofs.texts.chosen_fields.Given as goal

abbrev pub invariant-loop-left : goal.invariant-loop-left
invariant-loop-left l = record {
  chosen : map (λ field. field.now) l.chosen.items ++ chosen_from l.number l.fields (parts_left l.delimiter l.left)
      ≡ chosen_from 1 l.fields (parts_of l.delimiter l.value);
  number : l.number + left_len l.left ≤ length l.value + 2;
}

abbrev pub decreases-loop-left : goal.decreases-loop-left
decreases-loop-left l = left_len l.left
