use Rattle.std.specs.Prelude.{codes}
use Rattle.dp_commands.specs.Audit.{spot_text}
use Rattle.dp_wide_runs.proofs.PartsLemmas.{four_parts}
use Rattle.dp_wide_runs.proofs.wide_audit.push_no_function.Goals as goal

pub returns : goal.returns
returns c =
    four_parts c.args.out.now.begun (codes "NoFunction ") (spot_text c.args.plan.now c.args.entry) (codes " ") c.args.name.now
    c.in_ok-push.ensures.ok c.in_ok-push_spot.ensures c.in_ok-push-2.ensures.ok c.in_ok-push-3.ensures.ok
