use Rattle.std.proofs.Common.{◌≡◌, ◌+◌, ◌∷◌, List, drop, map, sym, ap, subst, ◌∙◌}
use Rattle.std.proofs.lemmas.List.{drop_more}
use Rattle.dp_program.specs.TestSuites.{ReadyOf, Run, ready_now, results_now}
use Rattle.dp_program.specs.declared.test_suites.ReadyTests.{ReadyTests}
use Rattle.dp_program.proofs.test_results.run_suite.Goals as goal

-- what follows from the files after this one follows from this one and those
pub loop-file-preserved : goal.loop-file-preserved
loop-file-preserved c =
    let rest : List ReadyOf = map ready_now (drop (c.loop-file.file-index + 1) c.args.tests.now) in
    let split : map ready_now (drop c.loop-file.file-index c.args.tests.now) ≡ ready_now c.file-item.result ∷ rest =
    ap (map ready_now) (drop_more c.args.tests.now c.loop-file.file-index c.file-item.result c.loop-file-test.true)
    ∙ ap (λ (tests : ReadyTests). ready_now tests ∷ rest) (sym c.file-item.is) in
    λ after later. c.loop-file.invariant after
    (subst (λ (tests : List ReadyOf). Run tests (results_now c.loop-file.results) after) (sym split)
    (results_now c.run_file.new.results, c.in_ok-run_file.ensures, later))
