use Rattle.std.proofs.Common.{sym, ◌∙◌}
use Rattle.dp_wide.proofs.BracketsLemmas.{has_counted-empty, has_counted-skip}
use Rattle.dp_wide.proofs.brackets.without_first.Goals as goal

pub returns-in-Some-clause-counted : goal.returns-in-Some-clause-counted
returns-in-Some-clause-counted c kinds =
    has_counted-skip c.args.text.now c.in-Some.rest.now _ kinds c.in-Some.ensures.cases.0

pub returns-in-None-clause-counted : goal.returns-in-None-clause-counted
returns-in-None-clause-counted c kinds =
    has_counted-empty c.args.text.now kinds 0 c.in-None.ensures.cases
    ∙ sym (has_counted-empty c.args.text.now kinds 1 c.in-None.ensures.cases)
