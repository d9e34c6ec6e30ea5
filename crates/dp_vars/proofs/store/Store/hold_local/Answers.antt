use Rattle.std.proofs.Common.{◌≡◌, ◌<◌, ◌∙◌, ap, sym, subst, length, nat_eq, unwrap_or, arith}
use Rattle.std.specs.List.{position_or_len}
use Rattle.std.specs.Cmp.Lexicographic.{pointwise}
use Rattle.dp_vars.specs.steps.Bindings.{with_binding}
use Rattle.dp_vars.specs.Stores.{set_local}
use Rattle.dp_vars.specs.steps.Tables.{IsBound, names_of, with_number, stack_of, store_of, with_stack}
use Rattle.dp_vars.proofs.BoundLemmas.{length-with_number, with_number-with_binding}
use Rattle.dp_vars.proofs.NamesLemmas.{length-names, number_of}
use Rattle.dp_vars.proofs.SettingLemmas.{local_bound, local_view}
use Rattle.dp_vars.proofs.StoresLemmas.{frames-with_number, length-frames_from}
use Rattle.dp_vars.proofs.TablesLemmas.{on_err}
use Rattle.dp_vars.proofs.store.Store.hold_local.Goals as goal

pub invariant_of-self-in_err-bind : goal.invariant_of-self-in_err-bind
invariant_of-self-in_err-bind g c =
    subst (λ es. IsBound es c.note.new.frames.items) (sym c.in_err-bind.ensures.err)
    (subst (IsBound c.self.inside.table) (sym c.in_ok-note.ensures.ok)
    (with_number-with_binding c.unwrap_or-number.result c.self.inside.table c.self.inside.frames.items c.self.invariant))

pub returns-in_err-bind-clause-err : goal.returns-in_err-bind-clause-err
returns-in_err-bind-clause-err g c = on_err c.from_residual-in_err-bind.result (
    (λ i. store_of (c.in_err-bind.ensures.err i) (c.in_ok-note.ensures.ok i))
    ∙ (λ i. record {
      variables = (store_of c.self.inside.table c.self.inside.frames.items).variables;
      frames = frames-with_number 1 c.unwrap_or-number.result c.self.inside.table c.self.inside.frames.items i;
      names = names_of c.self.inside.table;
    })
    ∙ c.self.view_is)

pub invariant_of-self-2 : goal.invariant_of-self-2
invariant_of-self-2 g c =
    let some : 0 < length c.self.inside.frames.items = omega (
      arith,
      c.requires,
      ap (λ store. length store.frames) c.self.view_is,
      length-frames_from 1 c.self.inside.table c.self.inside.frames.items,
    ) in
    let deep : c.len-depth.result ≡ length c.self.inside.frames.items = omega (
      arith,
      c.note.new.frames.ok,
      ap length c.in_ok-note.ensures.ok,
      length-with_number c.unwrap_or-number.result c.self.inside.frames.items,
      c.len-depth.ensures,
    ) in
    let number : c.unwrap_or-number.result ≡ position_or_len (pointwise nat_eq c.args.name.now) (names_of c.self.inside.table) =
    c.unwrap_or-number.ensures
    ∙ ap (unwrap_or c.slot-slot.result) (c.len.ensures ∙ sym (length-names (λ e. e.0) c.self.inside.table))
    ∙ number_of (pointwise nat_eq c.args.name.now) (names_of c.self.inside.table) c.slot-slot.result c.slot-slot.ensures in
    subst (λ es. IsBound es c.note.new.frames.items) (sym (c.in_ok-bind.ensures.ok
    ∙ ap (λ d. with_stack c.self.inside.table c.args.name.now (with_binding d c.args.value (stack_of c.self.inside.table c.args.name.now))) deep))
    (subst (IsBound (with_stack c.self.inside.table c.args.name.now
    (with_binding (length c.self.inside.frames.items) c.args.value (stack_of c.self.inside.table c.args.name.now))))
    (sym c.in_ok-note.ensures.ok)
    (local_bound c.self.inside.table c.self.inside.frames.items c.args.name.now c.args.value c.self.invariant
    c.unwrap_or-number.result number some))

pub returns-clause-ok : goal.returns-clause-ok
returns-clause-ok g c =
    let some : 0 < length c.self.inside.frames.items = omega (
      arith,
      c.requires,
      ap (λ store. length store.frames) c.self.view_is,
      length-frames_from 1 c.self.inside.table c.self.inside.frames.items,
    ) in
    let deep : c.len-depth.result ≡ length c.self.inside.frames.items = omega (
      arith,
      c.note.new.frames.ok,
      ap length c.in_ok-note.ensures.ok,
      length-with_number c.unwrap_or-number.result c.self.inside.frames.items,
      c.len-depth.ensures,
    ) in
    (λ i. store_of (c.in_ok-bind.ensures.ok i) (c.in_ok-note.ensures.ok i))
    ∙ ap (λ d. store_of (with_stack c.self.inside.table c.args.name.now
    (with_binding d c.args.value (stack_of c.self.inside.table c.args.name.now))) (with_number c.unwrap_or-number.result c.self.inside.frames.items)) deep
    ∙ local_view c.self.inside.table c.self.inside.frames.items c.args.name.now c.args.value c.self.invariant c.unwrap_or-number.result some
    ∙ ap (λ store. set_local store c.args.name.now c.args.value) c.self.view_is
