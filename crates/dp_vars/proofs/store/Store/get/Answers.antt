use Rattle.std.proofs.Common.{ap, sym, ◌∙◌, Some, None}
use Rattle.dp_vars.specs.steps.Bindings.{innermost_value}
use Rattle.dp_vars.specs.Stores.{value_in}
use Rattle.dp_vars.proofs.BoundLemmas.{falls_of}
use Rattle.dp_vars.proofs.StoresLemmas.{value_in-is}
use Rattle.dp_vars.proofs.TablesLemmas.{stack_of-lookup}
use Rattle.dp_vars.proofs.store.Store.get.Goals as goal

pub returns-in-Some : goal.returns-in-Some
returns-in-Some g c =
    c.value.ensures
    ∙ ap innermost_value (sym (stack_of-lookup c.self.inside.table c.args.name.now (Some c.in-Some.stack.now) c.in-Some.ensures))
    ∙ value_in-is c.self.inside.table c.args.name.now c.self.inside.frames.items
    (falls_of c.self.inside.table c.self.inside.frames.items c.args.name.now c.self.invariant)
    ∙ ap (λ store. value_in store c.args.name.now) c.self.view_is

pub returns-in-None : goal.returns-in-None
returns-in-None g c =
    ap innermost_value (sym (stack_of-lookup c.self.inside.table c.args.name.now None c.in-None.ensures))
    ∙ value_in-is c.self.inside.table c.args.name.now c.self.inside.frames.items
    (falls_of c.self.inside.table c.self.inside.frames.items c.args.name.now c.self.invariant)
    ∙ ap (λ store. value_in store c.args.name.now) c.self.view_is
