-- A subroutine that is entered by the parts of its target.
use Rattle.std.proofs.Common.{◌≡◌, ◌-◌, Some, slice_get, ℕ, List, [], ◌∷◌, ◌++◌, refl, ap, ◌∙◌, length, map, take, arith}
use Rattle.std.specs.Option.{option_and_then}
use Rattle.std.proofs.lemmas.List.{length-append, map-append}
use Rattle.std.proofs.Math.Seq.{take-append_seam}
use Rattle.dp_conf.specs.Cut.{cut_once}
use Rattle.dp_app.specs.Cells.{CellOf}
use Rattle.dp_flow.specs.Jumps.{called_by, enter_subroutine, gosub_parts}

-- the last element of a list after a push
pub last-push : {X : Type 0} (xs : List X) (x : X) → slice_get (xs ++ x ∷ []) (length (xs ++ x ∷ []) - 1) ≡ Some x
last-push {X = X} xs x = ap (slice_get (xs ++ x ∷ [])) count ∙ at xs
  where
    count : length (xs ++ x ∷ []) - 1 ≡ length xs
    count = omega (arith, length-append xs (x ∷ []))

    at : (ys : List X) → slice_get (ys ++ x ∷ []) (length ys) ≡ Some x
    at [] = refl
    at (y ∷ ys) = at ys

-- what stands before the last element of a list after a push
pub front-push : {X : Type 0} (xs : List X) (x : X) → take (length (xs ++ x ∷ []) - 1) (xs ++ x ∷ []) ≡ xs
front-push xs x = ap (λ n. take n (xs ++ x ∷ [])) count ∙ take-append_seam xs (x ∷ [])
  where
    count : length (xs ++ x ∷ []) - 1 ≡ length xs
    count = omega (arith, length-append xs (x ∷ []))

-- a subroutine that is entered by the parts before the last one, and by the last one
pub enter_subroutine-push : {X : Type 0} (see : X → List ℕ) (parts front : List X) (last : X) (cell : CellOf) → parts ≡ front ++ last ∷ []
    → gosub_parts (map see parts) cell ≡ enter_subroutine cell (map see front) (called_by (see last) (cut_once 40 (see last)))
enter_subroutine-push see parts front last cell cut =
    ap (λ xs. gosub_parts xs cell) seen
    ∙ (λ i. enter_subroutine cell (front-push (map see front) (see last) i) (option_and_then (λ part. called_by part (cut_once 40 part)) (last-push (map see front) (see last) i)))
  where
    seen : map see parts ≡ map see front ++ see last ∷ []
    seen = ap (map see) cut ∙ map-append see front (last ∷ [])
