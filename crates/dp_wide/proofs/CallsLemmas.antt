-- Subroutines that are entered with the parts of their targets, and the number of locals for their arguments.
use Rattle.std.proofs.Common.{◌≡◌, ℕ, ◌+◌, suc, List, [], ◌∷◌, ◌++◌, refl, ap, ◌∙◌, length, map}
use Rattle.std.specs.Option.{option_and_then}
use Rattle.std.proofs.lemmas.List.{map-append}
use Rattle.dp_conf.specs.Cut.{cut_once}
use Rattle.dp_app.specs.Cells.{CellOf}
use Rattle.dp_flow.specs.Jumps.{argument_locals, called_by}
use Rattle.dp_flow.proofs.CallsLemmas.{front-push, last-push}
use Rattle.dp_wide.specs.Subroutines.{enter_counted, enter_parts}

-- an argument is one local
pub locals_count : (number : ℕ) (arguments : List (List ℕ)) → length (argument_locals number arguments) ≡ length arguments
locals_count number [] = refl
locals_count number (value ∷ values) = ap suc (locals_count (number + 1) values)

-- a subroutine that is entered with the parts before the last one, and with the last one
pub enter_counted-push : {X : Type 0} (see : X → List ℕ) (parts front : List X) (last : X) (cell : CellOf) → parts ≡ front ++ last ∷ []
    → enter_parts (map see parts) cell ≡ enter_counted cell (map see front) (called_by (see last) (cut_once 40 (see last)))
enter_counted-push see parts front last cell cut =
    ap (λ xs. enter_parts xs cell) seen
    ∙ (λ i. enter_counted cell (front-push (map see front) (see last) i) (option_and_then (λ part. called_by part (cut_once 40 part)) (last-push (map see front) (see last) i)))
  where
    seen : map see parts ≡ map see front ++ see last ∷ []
    seen = ap (map see) cut ∙ map-append see front (last ∷ [])
