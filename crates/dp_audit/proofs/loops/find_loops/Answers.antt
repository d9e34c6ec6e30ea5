use Rattle.dp_audit.specs.steps.Marks.{is_marked}
use Rattle.dp_audit.proofs.SearchLemmas.{listed_each}
use Rattle.dp_audit.proofs.loops.find_loops.Goals as goal

pub returns-clause-listed : goal.returns-clause-listed
returns-clause-listed g c = record { test = is_marked c.in_ok-search.search.firsts; decides = c.in_ok-search.ensures; listed = c.in_ok-loops.ensures }

pub returns-clause-each : goal.returns-clause-each
returns-clause-each g c = listed_each g.N.OnwardNames.onward c.args.plan.now c.in_ok-loops.loops.items (returns-clause-listed g c)
