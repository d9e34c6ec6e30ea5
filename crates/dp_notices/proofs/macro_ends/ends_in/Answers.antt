use Rattle.std.proofs.Common.{◌++◌, ◌∙◌, List, ap}
use Rattle.dp_notices.specs.MacroEnds.{end_at}
use Rattle.dp_notices.specs.declared.macro_ends.AddedLine.{AddedLine}
use Rattle.dp_notices.proofs.MacroLemmas.{entries_more}
use Rattle.dp_notices.proofs.macro_ends.ends_in.Goals as goal

-- the lines of one more entry
pub loop-entry-preserved : goal.loop-entry-preserved
loop-entry-preserved c =
    c.in_ok-push_end.ensures
    ∙ (ap (λ (before : List AddedLine). before ++ end_at c.args.loaded.now.plan c.args.loaded.now.lines c.args.order.now.contexts (record { context = c.args.number; entry = c.loop-entry.entry })) c.loop-entry.invariant
    ∙ entries_more (end_at c.args.loaded.now.plan c.args.loaded.now.lines c.args.order.now.contexts) c.args.number c.loop-entry.entry)
