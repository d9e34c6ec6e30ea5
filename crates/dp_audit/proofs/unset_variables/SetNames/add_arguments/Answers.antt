use Rattle.dp_audit.proofs.UnsetLemmas.{adds_argument}
use Rattle.dp_audit.proofs.unset_variables.SetNames.add_arguments.Goals as goal

pub loop-number-preserved : goal.loop-number-preserved
loop-number-preserved c =
    adds_argument c.args.self.now c.loop-number.self c.add_argument.new.self c.loop-number.number c.loop-number.invariant c.in_ok-add_argument.ensures
