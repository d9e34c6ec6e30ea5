use Rattle.std.proofs.Common.{◌≡◌, ◌<◌, ◌∙◌, ap, sym, length, nat_lt, vec_len, arith}
use Rattle.std.proofs.lemmas.Grind.{common_steps}
use Rattle.dp_vars.specs.Stores.{set_local}
use Rattle.dp_vars.proofs.NamesLemmas.{is_some_lt}
use Rattle.dp_vars.proofs.StoresLemmas.{length-frames_from, set_local-none}
use Rattle.dp_vars.proofs.store.Store.set_local.Goals as goal

pub returns-then-is_empty-clause-ok : goal.returns-then-is_empty-clause-ok
returns-then-is_empty-clause-ok g c =
    let none : vec_len c.self.inside.frames ≡ 0 = grind (arith, common_steps) in
    let empty : length c.self.inside.frames.items ≡ 0 = omega (arith, c.self.inside.frames.ok) in
    sym c.self.view_is
    ∙ set_local-none c.self.inside.table c.self.inside.frames.items c.args.name.now c.args.value.now empty
    ∙ ap (λ store. set_local store c.args.name.now c.args.value.now) c.self.view_is

pub hold_local-requires : goal.hold_local-requires
hold_local-requires g c =
    let some : 0 < length c.self.inside.frames.items = grind (arith, common_steps) in
    omega (
      arith,
      some,
      ap (λ store. length store.frames) c.self.view_is,
      length-frames_from 1 c.self.inside.table c.self.inside.frames.items,
    )

pub returns-clause-done : goal.returns-clause-done
returns-clause-done g c =
    let some : 0 < length c.self.inside.frames.items = grind (arith, common_steps) in
    is_some_lt (length c.self.inside.frames.items) some
    ∙ ap (nat_lt 0) (sym (length-frames_from 1 c.self.inside.table c.self.inside.frames.items))
    ∙ ap (λ store. nat_lt 0 (length store.frames)) c.self.view_is
