use Rattle.std.proofs.Common.{List, map, rules}
use Rattle.dp_app.specs.Rows.{with_functions}
use Rattle.dp_answer.specs.Asks.{ask_of}
use Rattle.dp_answer.specs.Steps.{AreTerms}
use Rattle.dp_queue.specs.declared.settings.Settings.{Settings}
use Rattle.dp_answer.proofs.ReachedLemmas.{found-entries}
use Rattle.dp_answer.proofs.reach_entries.reached_entries.Goals as goal

pub returns : goal.returns
returns g c =
    let settings : List Settings = map (λ queue. queue.settings) c.args.queues.now.queues in
    let are : AreTerms c.args.plan.now settings (ask_of c.args.ask.now) c.in-Some.terms = search rules in
    found-entries (with_functions g.T.AppTable.rows g.T.Functions.Functions.table) c.args.plan.now settings (ask_of c.args.ask.now) c.in-Some.terms c.in_ok-found.found _ _ are c.in_ok-found.ensures c.answers.ensures c.in_ok-entries.ensures
