use Rattle.std.proofs.Common.{◌≡◌, None, sym, ap, ◌∙◌, rules}
use Rattle.dp_pattern.specs.Classes.{has_bit}
use Rattle.dp_pattern.specs.Name.{items_of, item_fault}
use Rattle.dp_pattern.proofs.ItemLemmas.{class_with, class_with-more}
use Rattle.dp_pattern.proofs.class.words_of_set.Goals as goal

pub loop-item-preserved : goal.loop-item-preserved
loop-item-preserved c =
    let fine : item_fault c.in-Some.item ≡ None = search rules in
    class_with-more (has_bit c.loop-item.words) (has_bit c.add_item.new.words) c.in-Some.item (items_of c.in-Some.after.now) fine c.add_item.ensures
    ∙ ap (class_with (has_bit c.loop-item.words)) (sym c.in-Some.ensures.0)
    ∙ c.loop-item.invariant
