-- A reach above the greatest number is as far as the greatest in any value.
use Rattle.std.proofs.Common.{◌≡◌, ◌<◌, ◌^◌, ℕ, List, Option, Some, None, length, refl, ap, ◌∙◌, arith, slice_range}
use Rattle.std.specs.Option.{option_map}
use Rattle.dp_vars.specs.declared.part.Reach.{Reach}
use Rattle.dp_vars.specs.declared.part.Reach.TheVariants.{Ahead, Back}
use Rattle.dp_vars.specs.declared.part.Selection.{Selection}
use Rattle.dp_vars.specs.declared.part.Selection.TheVariants.{Whole, Part, Nothing}
use Rattle.dp_vars.specs.Far.{at_most, asked_at_most}
use Rattle.dp_vars.specs.Parts.{part_from, start_of, end_of, part}

pub part_from-at_most : (offset : Option Reach) (size : Option (Option Reach))
    → part_from (option_map at_most offset) (option_map (option_map at_most) size) ≡ asked_at_most (part_from offset size)
part_from-at_most None size = refl
part_from-at_most (Some offset) None = refl
part_from-at_most (Some offset) (Some size) = refl

start_of-at_most : (offset : Reach) (size : ℕ) → size < 2 ^ 64 → start_of (at_most offset) size ≡ start_of offset size
start_of-at_most (Ahead n) size small = omega arith
start_of-at_most (Back n) size small = omega arith

end_of-at_most : (reach : Option Reach) (start size : ℕ) → size < 2 ^ 64 → end_of (option_map at_most reach) start size ≡ end_of reach start size
end_of-at_most None start size small = refl
end_of-at_most (Some (Ahead n)) start size small = omega arith
end_of-at_most (Some (Back n)) start size small = omega arith

pub part-at_most : (asked : Selection) (value : List ℕ) → length value < 2 ^ 64 → part (asked_at_most asked) value ≡ part asked value
part-at_most Whole value small = refl
part-at_most Nothing value small = refl
part-at_most (Part offset size) value small =
    ap (λ start. slice_range value start (end_of (option_map at_most size) start (length value))) (start_of-at_most offset (length value) small)
    ∙ ap (slice_range value (start_of offset (length value))) (end_of-at_most size (start_of offset (length value)) (length value) small)
