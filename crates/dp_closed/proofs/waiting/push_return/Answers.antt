use Rattle.std.proofs.Common.{◌≡◌, ◌++◌, ◌∷◌, [], subst}
use Rattle.std.specs.Prelude.{OnOk, codes}
use Rattle.dp_closed.specs.Shown.{shown_duties}
use Rattle.dp_reach.specs.Bounds.{Holds}
use Rattle.dp_closed.proofs.waiting.push_return.Goals as goal

pub returns : goal.returns
returns c =
    subst (λ set. OnOk c.push_name.result (shown_duties c.push_name.new.duties.items ≡ shown_duties c.args.duties.now.items ++ Holds (codes "GOSUB_RETVAL") set ∷ []))
    c.set_of.ensures c.push_name.ensures
