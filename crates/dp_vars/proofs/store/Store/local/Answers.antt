use Rattle.std.proofs.Common.{◌≡◌, ◌<◌, ap, sym, ◌∙◌, Some, None, length, if◌then◌else◌, arith, refl}
use Rattle.std.proofs.lemmas.Grind.{common_steps}
use Rattle.dp_vars.specs.steps.Bindings.{innermost_value, is_at}
use Rattle.dp_vars.specs.Stores.{local_in}
use Rattle.dp_vars.proofs.BoundLemmas.{falls_of}
use Rattle.dp_vars.proofs.StoresLemmas.{local_in-is}
use Rattle.dp_vars.proofs.TablesLemmas.{stack_of-lookup}
use Rattle.dp_vars.proofs.store.Store.local.Goals as goal

pub returns-in-Some : goal.returns-in-Some
returns-in-Some g c =
    let some : 0 < length c.self.inside.frames.items = grind (arith, common_steps) in
    let many : c.len.result ≡ length c.self.inside.frames.items = omega (arith, c.self.inside.frames.ok) in
    c.value_at.ensures
    ∙ ap (λ n. if is_at n c.in-Some.stack.now then innermost_value c.in-Some.stack.now else None) many
    ∙ ap (λ bs. if is_at (length c.self.inside.frames.items) bs then innermost_value bs else None)
    (sym (stack_of-lookup c.self.inside.table c.args.name.now (Some c.in-Some.stack.now) c.in-Some.ensures))
    ∙ local_in-is c.self.inside.table c.args.name.now c.self.inside.frames.items _
    (falls_of c.self.inside.table c.self.inside.frames.items c.args.name.now c.self.invariant) some refl
    ∙ ap (λ store. local_in store c.args.name.now) c.self.view_is

pub returns-in-None : goal.returns-in-None
returns-in-None g c =
    let some : 0 < length c.self.inside.frames.items = grind (arith, common_steps) in
    ap (λ bs. if is_at (length c.self.inside.frames.items) bs then innermost_value bs else None)
    (sym (stack_of-lookup c.self.inside.table c.args.name.now None c.in-None.ensures))
    ∙ local_in-is c.self.inside.table c.args.name.now c.self.inside.frames.items _
    (falls_of c.self.inside.table c.self.inside.frames.items c.args.name.now c.self.invariant) some refl
    ∙ ap (λ store. local_in store c.args.name.now) c.self.view_is
