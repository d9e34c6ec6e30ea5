-- A step of the code: the frames of its stack in terms of definitions. They are the frames of `walk` of Walk.
use Rattle.std.specs.Prelude.{ℕ, Bool, false, List, [], ◌∷◌}
use Rattle.dp_expr.specs.declared.frame.Frame.{Frame as OpenFrame}
use Rattle.dp_expr.specs.declared.frame.Frame.TheVariants as open_frames
use Rattle.dp_expr.specs.steps.Texts.{value_seen}
use Rattle.dp_expr.specs.Values.{Outcome}
use Rattle.dp_expr.specs.Walk.{FrameOf, Left, Front, Paren, is_due}

-- a frame, with its value
abbrev pub frame_seen : OpenFrame → FrameOf Outcome
frame_seen (open_frames.Left operator left) = Left operator (value_seen left)
frame_seen (open_frames.Front prefix) = Front prefix
frame_seen open_frames.Paren = Paren

-- frames above others, the last of them on top
unfoldable pub frames_above : List (FrameOf Outcome) → List OpenFrame → List (FrameOf Outcome)
frames_above below [] = below
frames_above below (frame ∷ frames) = frames_above (frame_seen frame ∷ below) frames

-- the frames of a stack, from its top
unfoldable pub frames_seen : List OpenFrame → List (FrameOf Outcome)
frames_seen frames = frames_above [] frames

-- the frame on top is due before an operator of that level
abbrev pub is_top_due : {X : Type 0} → ℕ → List (FrameOf X) → Bool
is_top_due level [] = false
is_top_due level (frame ∷ frames) = is_due level frame
