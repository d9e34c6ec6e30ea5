use Rattle.std.proofs.Common.{◌≡◌, ℕ, List, [], ◌∷◌, ◌++◌, length, filter, map, ap, refl, sym, ◌∙◌}
use Rattle.std.specs.Option.{option_to_list}
use Rattle.std.proofs.lemmas.List.{append-nil}
use Rattle.dp_wide_runs.specs.FunctionsCalled.{is_no_function, no_functions_in}
use Rattle.dp_wide_runs.specs.declared.wide_finding.WideFinding.TheVariants.{NoFunction}
use Rattle.dp_wide_runs.proofs.FunctionsLemmas.{functions_next}
use Rattle.dp_wide_runs.proofs.functions_called.push_names.Goals as goal

-- an empty text
nothing : (text : List ℕ) → 0 ≡ length text → [] ≡ text
nothing [] none = refl
nothing (byte ∷ text) none = absurd cc

pub loop-byte-preserved : goal.loop-byte-preserved
loop-byte-preserved c =
    let items = c.loop-byte.list.items in
    let after = c.in-Some.after.now in
    ap (λ items. items ++ map (NoFunction c.args.entry) (no_functions_in after))
    (c.in_ok-push_name.ensures ∙ ap (λ name. items ++ map (NoFunction c.args.entry) (filter is_no_function (option_to_list name))) c.function_after.ensures)
    ∙ functions_next (NoFunction c.args.entry) items c.in-Some.byte.now after
    ∙ ap (λ text. items ++ map (NoFunction c.args.entry) (no_functions_in text)) (sym c.in-Some.ensures.cases.0)
    ∙ c.loop-byte.invariant

pub returns : goal.returns
unfolding no_functions_in
returns c =
    let items = c.loop-byte.list.items in
    sym (append-nil items)
    ∙ ap (λ text. items ++ map (NoFunction c.args.entry) (no_functions_in text)) (nothing c.loop-byte.left.now (sym c.in_default.ensures.cases))
    ∙ c.loop-byte.invariant
