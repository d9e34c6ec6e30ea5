-- Arrows that are added for one side of a choice, and then for the other; for the jumps of an application, and then for the ways out of
-- queues; and for one application of an entry, and then for the other.
use Rattle.std.proofs.Common.{◌≡◌, ℕ, List, ◌++◌, Option, fold, ap, sym, ◌∙◌}
use Rattle.std.specs.List.{filter_map, flat_map}
use Rattle.std.specs.Option.{option_to_list}
use Rattle.std.proofs.lemmas.Grind.{flat_map-append}
use Rattle.std.proofs.lemmas.List.Elements.{filter_map-append}
use Rattle.std.proofs.lemmas.List.Sums.{fold-append}
use Rattle.dp_audit.specs.Targets.{sides}
use Rattle.dp_graph.specs.Arrows.{with_arrow}
use Rattle.dp_graph.specs.ExecIf.{CallOf}
use Rattle.dp_graph.specs.declared.arrow.Arrow.{Arrow}

pub added_append : (arrows first second : List Arrow) → fold with_arrow (fold with_arrow arrows first) second ≡ fold with_arrow arrows (first ++ second)
added_append arrows first second = sym (fold-append with_arrow arrows first second)

pub added_sides : (f : List ℕ → Option Arrow) (arrows : List Arrow) (first second : Option (List ℕ)) →
    fold with_arrow (fold with_arrow arrows (filter_map f (option_to_list first))) (filter_map f (option_to_list second))
    ≡ fold with_arrow arrows (filter_map f (sides first second))
added_sides f arrows first second =
    added_append arrows (filter_map f (option_to_list first)) (filter_map f (option_to_list second))
    ∙ ap (λ (more : List Arrow). fold with_arrow arrows more) (sym (filter_map-append f (option_to_list first) (option_to_list second)))

pub added_calls : (f : CallOf → List Arrow) (arrows : List Arrow) (first second : List CallOf) →
    fold with_arrow (fold with_arrow arrows (flat_map f first)) (flat_map f second) ≡ fold with_arrow arrows (flat_map f (first ++ second))
added_calls f arrows first second =
    added_append arrows (flat_map f first) (flat_map f second) ∙ ap (λ (more : List Arrow). fold with_arrow arrows more) (sym (flat_map-append f first second))
