use Rattle.dp_plan.proofs.line_results.Made.begin.Goals as goal

pub invariant_of-self-2 : goal.invariant_of-self-2
invariant_of-self-2 c = c.in_ok-opened.ensures.opened c.self.inside.lines.reader
