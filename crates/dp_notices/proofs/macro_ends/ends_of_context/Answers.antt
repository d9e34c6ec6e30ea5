use Rattle.std.proofs.Common.{◌≡◌, ◌∙◌, Bool, true, List, [], length, ap, sym, if◌then◌else◌}
use Rattle.std.proofs.lemmas.Result.{IfOk-weaker}
use Rattle.std.specs.List.{flat_map}
use Rattle.dp_lookup.specs.SearchOrder.{search_order}
use Rattle.dp_notices.specs.MacroEnds.{end_at, ends_in, is_macro, with_header}
use Rattle.dp_notices.specs.declared.macro_ends.AddedLine.{AddedLine}
use Rattle.dp_plan.specs.Ranking.{numbers_of}
use Rattle.dp_notices.proofs.macro_ends.ends_of_context.Goals as goal

-- the lines are those of the macro
pub returns-then-is_macro : goal.returns-then-is_macro
returns-then-is_macro c =
    let ends : List AddedLine = with_header c.args.context.now.name (ends_in c.args.loaded.now.plan c.args.loaded.now.lines c.args.number c.args.context.now) in
    let test : is_macro c.args.context.now.name ≡ true = sym (ap is_macro (c.bytes.ensures ∙ c.name.ensures)) ∙ (sym c.is_macro.ensures ∙ c.if-is_macro.true) in
    IfOk-weaker c.ends_of_macro.result _ _
    (λ found is. is
    ∙ ((λ i. with_header (c.name-then-is_macro.ensures i) (flat_map (end_at c.args.loaded.now.plan c.args.loaded.now.lines (search_order c.args.loaded.now.plan (c.name-then-is_macro.ensures i))) (numbers_of c.args.number (length (c.entries-count.ensures i)))))
    ∙ ap (λ (b : Bool). if b then ends else []) (sym test)))
    c.ends_of_macro.ensures
