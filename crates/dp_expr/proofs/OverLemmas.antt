-- When a walk is over: it has failed, or no token is left.
use Rattle.std.proofs.Common.{◌≡◌, ℕ, List, [], ◌∷◌, refl, ap}
use Rattle.dp_expr.specs.declared.walk_place.WalkPlace.{WalkPlace}
use Rattle.dp_expr.specs.declared.walk_place.WalkPlace.TheVariants as places
use Rattle.dp_expr.specs.steps.Places.{IsOver, place_seen}
use Rattle.dp_expr.specs.Tokens.{TokenOf, tokens_of}
use Rattle.dp_expr.specs.Walk.{Making, Failed, ending, step, walk}

-- after a failed walk nothing is made of any tokens
walk_failed : {X : Type 0} (make : Making X) (tokens : List TokenOf) → walk make Failed tokens ≡ ending make Failed
unfolding walk step
walk_failed make [] = refl
walk_failed make (token ∷ tokens) = walk_failed make tokens

-- a walk that has failed is over
pub over_failed : (text : List ℕ) → IsOver places.Failed text
unfolding IsOver
over_failed text make frames = walk_failed make (tokens_of text)

-- a walk without a token left is over
pub over_empty : (place : WalkPlace) (text : List ℕ) → tokens_of text ≡ [] → IsOver place text
unfolding IsOver walk
over_empty place text none make frames = ap (walk make (place_seen place frames)) none
