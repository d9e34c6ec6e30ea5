-- A reach above the greatest number is as far as the greatest in any pieces.
use Rattle.std.proofs.Common.{◌≡◌, ℕ, zero, suc, ◌-◌, ◌<◌, ◌≤◌, ◌^◌, Bool, true, false, List, [], ◌∷◌, Option, Some, None, length, min, refl, sym, ap, ◌∙◌, arith}
use Rattle.std.proofs.lemmas.Bool.{ltb-true, ltb-false}
use Rattle.std.specs.Option.{option_map}
use Rattle.std.specs.Prelude.{nat_lt}
use Rattle.dp_vars.specs.Far.{asked_at_most, at_most}
use Rattle.dp_vars.specs.declared.part.Reach.{Reach}
use Rattle.dp_vars.specs.declared.part.Reach.TheVariants.{Ahead, Back}
use Rattle.dp_vars.specs.declared.part.Selection.{Selection}
use Rattle.dp_vars.specs.declared.part.Selection.TheVariants.{Whole, Part, Nothing}
use Rattle.dp_pieces.specs.Names.{part_ahead, part_pieces}
use Rattle.dp_pieces.specs.Pieces.{AnyOf, Known, OneOf, PieceOf, front, without}

-- nothing is left of an empty list
without-none : (count : ℕ) → without count [] ≡ []
without-none zero = refl
without-none (suc count) = refl

front-none : (count : ℕ) → front count [] ≡ []
front-none zero = refl
front-none (suc count) = refl

-- any two counts that are at least the number of pieces give the same
without-far : (n m : ℕ) (pieces : List PieceOf) → length pieces ≤ n → length pieces ≤ m → without n pieces ≡ without m pieces
without-far n m [] far other = without-none n ∙ sym (without-none m)
without-far zero m (piece ∷ pieces) far other = absurd (omega (arith, far))
without-far (suc n) zero (piece ∷ pieces) far other = absurd (omega (arith, other))
without-far (suc n) (suc m) (Known byte ∷ pieces) far other = without-far n m pieces (omega (arith, far)) (omega (arith, other))
without-far (suc n) (suc m) (OneOf set ∷ pieces) far other = without-far n m pieces (omega (arith, far)) (omega (arith, other))
without-far (suc n) (suc m) (AnyOf set ∷ pieces) far other = refl

front-far : (n m : ℕ) (pieces : List PieceOf) → length pieces ≤ n → length pieces ≤ m → front n pieces ≡ front m pieces
front-far n m [] far other = front-none n ∙ sym (front-none m)
front-far zero m (piece ∷ pieces) far other = absurd (omega (arith, far))
front-far (suc n) zero (piece ∷ pieces) far other = absurd (omega (arith, other))
front-far (suc n) (suc m) (Known byte ∷ pieces) far other = ap (λ ps. Known byte ∷ ps) (front-far n m pieces (omega (arith, far)) (omega (arith, other)))
front-far (suc n) (suc m) (OneOf set ∷ pieces) far other = ap (λ ps. OneOf set ∷ ps) (front-far n m pieces (omega (arith, far)) (omega (arith, other)))
front-far (suc n) (suc m) (AnyOf set ∷ pieces) far other = refl

-- there are no more pieces left than before
length-without : (count : ℕ) (pieces : List PieceOf) → length (without count pieces) ≤ length pieces
length-without zero pieces = omega arith
length-without (suc count) [] = omega arith
length-without (suc count) (Known byte ∷ pieces) = let less = length-without count pieces in omega (arith, less)
length-without (suc count) (OneOf set ∷ pieces) = let less = length-without count pieces in omega (arith, less)
length-without (suc count) (AnyOf set ∷ pieces) = omega arith

without-at_most : (count : ℕ) (pieces : List PieceOf) → length pieces < 2 ^ 64 → without (min count (2 ^ 64 - 1)) pieces ≡ without count pieces
without-at_most count pieces small = by (nat_lt count (2 ^ 64)) refl
  where
    by : (less : Bool) → nat_lt count (2 ^ 64) ≡ less → without (min count (2 ^ 64 - 1)) pieces ≡ without count pieces
    by true is =
        let below : count < 2 ^ 64 = ltb-true count (2 ^ 64) is in
        let same : min count (2 ^ 64 - 1) ≡ count = omega (arith, below) in
        ap (λ n. without n pieces) same
    by false is =
        let above : 2 ^ 64 ≤ count = ltb-false count (2 ^ 64) is in
        without-far (min count (2 ^ 64 - 1)) count pieces (omega (arith, above, small)) (omega (arith, above, small))

front-at_most : (count : ℕ) (pieces : List PieceOf) → length pieces < 2 ^ 64 → front (min count (2 ^ 64 - 1)) pieces ≡ front count pieces
front-at_most count pieces small = by (nat_lt count (2 ^ 64)) refl
  where
    by : (less : Bool) → nat_lt count (2 ^ 64) ≡ less → front (min count (2 ^ 64 - 1)) pieces ≡ front count pieces
    by true is =
        let below : count < 2 ^ 64 = ltb-true count (2 ^ 64) is in
        let same : min count (2 ^ 64 - 1) ≡ count = omega (arith, below) in
        ap (λ n. front n pieces) same
    by false is =
        let above : 2 ^ 64 ≤ count = ltb-false count (2 ^ 64) is in
        front-far (min count (2 ^ 64 - 1)) count pieces (omega (arith, above, small)) (omega (arith, above, small))

part_ahead-at_most : (offset : ℕ) (size : Option Reach) (pieces : List PieceOf) → length pieces < 2 ^ 64
    → part_ahead (min offset (2 ^ 64 - 1)) (option_map at_most size) pieces ≡ part_ahead offset size pieces
part_ahead-at_most offset None pieces small = without-at_most offset pieces small
part_ahead-at_most offset (Some (Ahead size)) pieces small =
    let less : length (without offset pieces) ≤ length pieces = length-without offset pieces in
    ap (front (min size (2 ^ 64 - 1))) (without-at_most offset pieces small) ∙ front-at_most size (without offset pieces) (omega (arith, less, small))
part_ahead-at_most offset (Some (Back size)) pieces small = refl

-- the requested part of fewer pieces than that
pub part_pieces-at_most : (asked : Selection) (pieces : List PieceOf) → length pieces < 2 ^ 64 → part_pieces (asked_at_most asked) pieces ≡ part_pieces asked pieces
part_pieces-at_most Whole pieces small = refl
part_pieces-at_most Nothing pieces small = refl
part_pieces-at_most (Part (Ahead offset) size) pieces small = part_ahead-at_most offset size pieces small
part_pieces-at_most (Part (Back offset) size) pieces small = refl
