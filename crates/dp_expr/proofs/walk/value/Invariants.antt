use Rattle.std.proofs.Common.{◌≡◌, [], length}
use Rattle.dp_expr.specs.Tokens.{tokens_of}
use Rattle.dp_expr.specs.Walk.{Wanting, walk}
use Rattle.dp_expr.specs.steps.Exact.{values_by}
use Rattle.dp_expr.specs.steps.Frames.{frames_seen}
use Rattle.dp_expr.specs.steps.Places.{place_seen}
use Rattle.dp_expr.proofs.walk.value.Given as goal

abbrev pub invariant-loop-token : goal.invariant-loop-token
invariant-loop-token l =
    walk (values_by l.division) (place_seen l.place (frames_seen l.stack.frames.items)) (tokens_of l.rest) ≡ walk (values_by l.division) (Wanting []) (tokens_of l.text)

abbrev pub decreases-loop-token : goal.decreases-loop-token
decreases-loop-token l = length l.rest
