-- A step of the code: the place of its walk in terms of definitions. It is a place of `walk` of Walk.
use Rattle.std.specs.Prelude.{◌≡◌, ℕ, List}
use Rattle.dp_expr.specs.declared.walk_place.WalkPlace.{WalkPlace}
use Rattle.dp_expr.specs.declared.walk_place.WalkPlace.TheVariants as places
use Rattle.dp_expr.specs.steps.Texts.{value_seen}
use Rattle.dp_expr.specs.Tokens.{tokens_of}
use Rattle.dp_expr.specs.Values.{Outcome}
use Rattle.dp_expr.specs.Walk.{Making, FrameOf, State, Wanting, Holding, Failed, ending, walk}

-- a place above those frames
abbrev pub place_seen : WalkPlace → List (FrameOf Outcome) → State Outcome
place_seen places.Wanting frames = Wanting frames
place_seen (places.Holding value) frames = Holding frames (value_seen value)
place_seen places.Failed frames = Failed

-- whatever is made, the walk over the tokens of the text makes the same as at their end
unfoldable pub IsOver : WalkPlace → List ℕ → Type 0
IsOver place text = (make : Making Outcome) (frames : List (FrameOf Outcome))
    → walk make (place_seen place frames) (tokens_of text) ≡ ending make (place_seen place frames)
