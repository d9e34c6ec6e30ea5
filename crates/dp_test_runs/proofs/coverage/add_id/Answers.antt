use Rattle.std.proofs.Common.{◌∙◌}
use Rattle.dp_test_runs.specs.Coverage.{has_run}
use Rattle.dp_test_runs.proofs.KeptLemmas.{id_added}
use Rattle.dp_test_runs.proofs.coverage.add_id.Goals as goal

pub returns : goal.returns
returns c other = c.in_ok-insert.ensures.updates.0 other ∙ id_added c.args.id other (has_run c.args.kept.now.keys other)
