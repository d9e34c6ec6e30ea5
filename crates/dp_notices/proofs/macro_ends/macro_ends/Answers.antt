use Rattle.std.proofs.Common.{◌++◌, ◌∙◌, List, ap}
use Rattle.dp_notices.specs.MacroEnds.{ends_at}
use Rattle.dp_notices.specs.declared.macro_ends.AddedLine.{AddedLine}
use Rattle.dp_notices.proofs.MacroLemmas.{contexts_more}
use Rattle.dp_notices.proofs.macro_ends.macro_ends.Goals as goal

-- the lines of one more context
pub loop-number-preserved : goal.loop-number-preserved
loop-number-preserved c =
    c.in_ok-push_ends_at.ensures
    ∙ (ap (λ (before : List AddedLine). before ++ ends_at c.args.loaded.now.plan c.args.loaded.now.lines c.loop-number.number) c.loop-number.invariant
    ∙ contexts_more (ends_at c.args.loaded.now.plan c.args.loaded.now.lines) c.loop-number.number)
