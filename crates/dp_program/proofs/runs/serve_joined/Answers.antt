use Rattle.dp_program.proofs.runs.serve_joined.Goals as goal

pub returns-clause-serves : goal.returns-clause-serves
returns-clause-serves g c = (rw c.placed_nowhere.ensures.same c.run_input.ensures.runs, c.placed_nowhere.ensures.stands)
