use Rattle.std.proofs.Common.{◌≡◌, ◌+◌, ◌++◌, ◌∷◌, List, [], drop, map, sym, ap, append_assoc, ◌∙◌}
use Rattle.std.proofs.lemmas.List.{drop_more}
use Rattle.dp_test_runs.specs.Points.{point_in}
use Rattle.dp_test_runs.specs.Tests.{beginning}
use Rattle.dp_test_runs.specs.declared.course.Course.{Course}
use Rattle.dp_test_runs.specs.declared.tap.Point.{Point}
use Rattle.dp_tests.specs.declared.file.Test.{Test}
use Rattle.dp_test_runs.proofs.points.run_points.Goals as goal

-- one more test begins in the first world, and its point comes after the others
pub loop-test-preserved : goal.loop-test-preserved
loop-test-preserved c =
    let tests : List Test = c.args.tested.now.file.now.tests in
    let item : Test = c.test-item.result in
    let later : List Point = map (point_in c.args.tested.now c.args.first) (drop (c.loop-test.test-index + 1) tests) in
    let at : c.loop-test.course ≡ beginning c.args.first = c.loop-test.invariant.0 in
    let point : c.in_ok-point.point ≡ point_in c.args.tested.now c.args.first item =
    c.in_ok-point.ensures.point ∙ ap (λ (k : Course). point_in c.args.tested.now k.machine item) at in
    let items : List Test = c.as_slice-test-items.result.now in
    let same : items ≡ tests = c.as_slice-test-items.ensures in
    let front : drop c.loop-test.test-index tests ≡ item ∷ drop (c.loop-test.test-index + 1) tests =
    ap (drop c.loop-test.test-index) (sym same)
    ∙ (drop_more items c.loop-test.test-index item c.loop-test-test.true
    ∙ (ap (λ (t : Test). t ∷ drop (c.loop-test.test-index + 1) items) (sym c.test-item.is)
    ∙ ap (λ (ts : List Test). item ∷ drop (c.loop-test.test-index + 1) ts) same)) in
    let split : map (point_in c.args.tested.now c.args.first) (drop c.loop-test.test-index tests) ≡ point_in c.args.tested.now c.args.first item ∷ later =
    ap (map (point_in c.args.tested.now c.args.first)) front in (
      c.in_ok-point.ensures.again ∙ at,
      ap (λ (ps : List Point). ps ++ later) c.in_ok-push.ensures.ok
          ∙ (append_assoc c.loop-test.points (c.in_ok-point.point ∷ []) later
          ∙ (ap (λ (p : Point). c.loop-test.points ++ p ∷ later) point
          ∙ (ap (λ (ps : List Point). c.loop-test.points ++ ps) (sym split) ∙ c.loop-test.invariant.1))),
    )
