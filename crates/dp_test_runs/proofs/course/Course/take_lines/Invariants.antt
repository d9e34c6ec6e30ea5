use Rattle.std.proofs.Common.{◌≡◌, drop, fold}
use Rattle.dp_commands.specs.Script.{turns_of}
use Rattle.dp_test_runs.specs.Courses.{after_turn}
use Rattle.dp_test_runs.proofs.course.Course.take_lines.Given as goal

abbrev pub invariant-loop-line : goal.invariant-loop-line
invariant-loop-line l =
    fold after_turn l.self (turns_of (drop l.line-index l.lines)) ≡ fold after_turn l.fn.self (turns_of l.lines)
