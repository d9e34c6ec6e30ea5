use Rattle.std.proofs.Common.{◌≡◌, length}
use Rattle.dp_pattern.specs.Classes.{has_bit}
use Rattle.dp_pattern.specs.Name.{class_of_items, items_of}
use Rattle.dp_pattern.proofs.ItemLemmas.{class_with}
use Rattle.dp_pattern.proofs.class.words_of_set.Given as goal

abbrev pub invariant-loop-item : goal.invariant-loop-item
invariant-loop-item l = class_with (has_bit l.words) (items_of l.rest) ≡ class_of_items (items_of l.fn.bytes)

abbrev pub decreases-loop-item : goal.decreases-loop-item
decreases-loop-item l = length l.rest
