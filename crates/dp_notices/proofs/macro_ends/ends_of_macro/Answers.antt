use Rattle.std.proofs.Common.{◌∙◌, ℕ, List, ap}
use Rattle.std.specs.List.{flat_map}
use Rattle.dp_notices.specs.MacroEnds.{end_at, with_header}
use Rattle.dp_plan.specs.Ranking.{numbers_of}
use Rattle.dp_notices.proofs.macro_ends.ends_of_macro.Goals as goal

-- the order is that of the name
pub returns : goal.returns
returns c =
    c.in_ok-all.ensures
    ∙ (λ i. with_header (c.bytes.ensures i) ((c.in_ok-ends.ensures ∙ ap (λ (order : List ℕ). flat_map (end_at c.args.loaded.now.plan c.args.loaded.now.lines order) (numbers_of c.args.number c.args.count)) c.in_ok-order.ensures.order) i))
