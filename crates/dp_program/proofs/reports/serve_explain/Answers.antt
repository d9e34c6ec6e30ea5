use Rattle.dp_program.proofs.reports.serve_explain.Goals as goal

pub returns-clause-serves : goal.returns-clause-serves
returns-clause-serves g c = (rw c.placed_nowhere.ensures.same c.write_entry.ensures.reports, c.placed_nowhere.ensures.stands)
