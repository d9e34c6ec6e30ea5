use Rattle.dp_app.specs.Rows.{with_functions}
use Rattle.dp_machine.proofs.IsolationLemmas.{isolated-from-start}
use Rattle.dp_machine.proofs.laws.isolation.Goals as goal

pub returns-clause-replies : goal.returns-clause-replies
returns-clause-replies g c = λ world events channel unseen. (isolated-from-start (with_functions g.T.AppTable.rows g.T.Functions.Functions.table) world events channel unseen).replies

pub returns-clause-world : goal.returns-clause-world
returns-clause-world g c = λ world events channel unseen. (isolated-from-start (with_functions g.T.AppTable.rows g.T.Functions.Functions.table) world events channel unseen).world
