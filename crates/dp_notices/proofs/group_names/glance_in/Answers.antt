use Rattle.dp_notices.proofs.GlanceLemmas.{passed_ungrouped, passed_within}
use Rattle.dp_notices.proofs.group_names.glance_in.Goals as goal

-- the line says nothing
pub returns-then-is_passed-clause-grouped : goal.returns-then-is_passed-clause-grouped
returns-then-is_passed-clause-grouped c =
    passed_ungrouped c.args.within c.is_passed.result c.args.content.now c.is_passed.ensures c.if-is_passed.true

pub returns-then-is_passed-clause-within : goal.returns-then-is_passed-clause-within
returns-then-is_passed-clause-within c =
    passed_within c.args.within c.is_passed.result c.args.content.now c.is_passed.ensures c.if-is_passed.true
