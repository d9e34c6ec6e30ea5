use Rattle.std.proofs.Common.{[], ◌∷◌, sym, subst}
use Rattle.dp_plan.specs.declared.plan.GlobalVariable.{GlobalVariable}
use Rattle.dp_audit.specs.Unset.{Adds}
use Rattle.dp_audit.proofs.UnsetLemmas.{adds_end, adds_next}
use Rattle.dp_audit.proofs.unset_variables.SetNames.add_globals.Goals as goal

pub loop-global-preserved : goal.loop-global-preserved
loop-global-preserved c last rest =
    c.loop-global.invariant last
    (adds_next (λ (global : GlobalVariable). global.name ∷ []) c.loop-global.self c.add_copy.new.self last c.args.globals.now c.loop-global.global-index c.global-item.result
    c.loop-global-test.true (sym c.global-item.is) (subst (λ name. Adds c.loop-global.self c.add_copy.new.self (name ∷ [])) c.bytes.ensures c.in_ok-add_copy.ensures) rest)

pub returns : goal.returns
returns c = c.loop-global.invariant c.loop-global.self (adds_end (λ (global : GlobalVariable). global.name ∷ []) c.loop-global.self c.args.globals.now c.loop-global.global-index c.loop-global-test.false)
