-- A step of the code: its stack in terms of definitions. It is the list of the frames of `walk` of Walk.
use Rattle.std.specs.Prelude.{List}
use Rattle.dp_expr.specs.declared.stack.Stack.{Stack}
use Rattle.dp_expr.specs.declared.walk_place.WalkPlace.{WalkPlace}
use Rattle.dp_expr.specs.steps.Frames.{frames_seen}
use Rattle.dp_expr.specs.steps.Places.{place_seen}
use Rattle.dp_expr.specs.Values.{Outcome}
use Rattle.dp_expr.specs.Walk.{FrameOf, State}

-- the frames of a stack, from its top
abbrev pub stack_seen : Stack → List (FrameOf Outcome)
stack_seen stack = frames_seen stack.frames.items

-- the state of a walk at a place, with that stack
abbrev pub state_seen : WalkPlace → Stack → State Outcome
state_seen place stack = place_seen place (stack_seen stack)
