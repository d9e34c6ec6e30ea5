use Rattle.std.proofs.Common.{◌+◌, ◌-◌, ◌<◌, fold, replicate, ap, sym, ◌∙◌, arith}
use Rattle.dp_test_runs.specs.Courses.{after_turn}
use Rattle.dp_test_runs.specs.declared.course.Course.{Course}
use Rattle.dp_test_runs.proofs.CoursesLemmas.{folded_more}
use Rattle.dp_test_runs.proofs.course.Course.take_line.Goals as goal

-- a turn is one of those that were left
pub loop-turn-preserved : goal.loop-turn-preserved
loop-turn-preserved c =
    let turn = c.args.line.now.turn in
    let count = c.args.line.now.count in
    let taken = c.loop-turn._turn in
    let more : taken < count = omega (arith, c.loop-turn-test.true) in
    ap (λ (course : Course). fold after_turn course (replicate (count - (taken + 1)) turn)) c.in_ok-take_turn.ensures
    ∙ (sym (folded_more count taken turn c.loop-turn.self more) ∙ c.loop-turn.invariant)
