use Rattle.std.proofs.Common.{◌≡◌, ◌+◌, ◌++◌, ◌∷◌, ℕ, Bool, List, [], drop, take, sym, ap, append_assoc, ◌∙◌}
use Rattle.std.proofs.lemmas.List.{drop_more, take_more}
use Rattle.dp_program.specs.TestSuites.{coverage_after, untold_coverage}
use Rattle.dp_program.specs.declared.test_results.PlanRun.{PlanRun}
use Rattle.dp_program.proofs.plan_coverage.push_each_coverage.Goals as goal

-- one more file is among those before the rest
pub loop-run-preserved : goal.loop-run-preserved
loop-run-preserved c =
    let is_json : Bool = c.args.is_json in
    let runs : List PlanRun = c.args.runs.now in
    let run : PlanRun = c.run-item.result in
    let before : List PlanRun = take c.loop-run.run-index runs in
    let rest : List PlanRun = drop (c.loop-run.run-index + 1) runs in
    let front : take (c.loop-run.run-index + 1) runs ≡ before ++ run ∷ [] =
    take_more runs c.loop-run.run-index run c.loop-run-test.true ∙ ap (λ (run : PlanRun). before ++ run ∷ []) (sym c.run-item.is) in
    let split : drop c.loop-run.run-index runs ≡ run ∷ rest =
    drop_more runs c.loop-run.run-index run c.loop-run-test.true ∙ ap (λ (run : PlanRun). run ∷ rest) (sym c.run-item.is) in
    let out : List ℕ = c.loop-run.out.items in
    let told : c.push_untold.new.out.items ≡ out ++ untold_coverage is_json runs before run =
    c.in_ok-push_untold.ensures ∙ ap (λ (count : ℕ). out ++ untold_coverage is_json runs (take count runs) run) c.loop-run.invariant.counted in
    record {
      counted = ap (λ (count : ℕ). count + 1) c.loop-run.invariant.counted;
      written =
          ap (λ (front : List PlanRun). c.push_untold.new.out.items ++ coverage_after is_json runs front rest) front
          ∙ ap (λ (out : List ℕ). out ++ coverage_after is_json runs (before ++ run ∷ []) rest) told
          ∙ append_assoc out (untold_coverage is_json runs before run) (coverage_after is_json runs (before ++ run ∷ []) rest)
          ∙ ap (λ (left : List PlanRun). out ++ coverage_after is_json runs before left) (sym split)
          ∙ c.loop-run.invariant.written;
    }
