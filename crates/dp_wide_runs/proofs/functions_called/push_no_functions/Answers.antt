use Rattle.std.proofs.Common.{◌++◌, ◌∙◌, List, ap, append_assoc}
use Rattle.std.specs.List.{flat_map, range_with_len}
use Rattle.dp_audit.proofs.FindingsLemmas.{contexts_more}
use Rattle.dp_wide_runs.specs.WideFindings.{of_context}
use Rattle.dp_wide_runs.specs.declared.wide_finding.WideFinding.{WideFinding}
use Rattle.dp_wide_runs.proofs.functions_called.push_no_functions.Goals as goal

pub loop-number-preserved : goal.loop-number-preserved
loop-number-preserved c =
    let before = c.args.list.now.items in
    let plan = c.args.plan.now in
    let number = c.loop-number.number in
    c.in_ok-push_of_context.ensures
    ∙ (ap (λ (items : List WideFinding). items ++ of_context plan number) c.loop-number.invariant
    ∙ (append_assoc before (flat_map (of_context plan) (range_with_len 0 number)) (of_context plan number)
    ∙ ap (λ (items : List WideFinding). before ++ items) (contexts_more (of_context plan) number)))
