use Rattle.std.proofs.Common.{◌≡◌, ◌-◌, fold, replicate}
use Rattle.dp_test_runs.specs.Courses.{after_turn}
use Rattle.dp_test_runs.proofs.course.Course.take_line.Given as goal

abbrev pub invariant-loop-turn : goal.invariant-loop-turn
invariant-loop-turn l =
    fold after_turn l.self (replicate (l.line.count - l._turn) l.line.turn) ≡ fold after_turn l.fn.self (replicate l.line.count l.line.turn)
