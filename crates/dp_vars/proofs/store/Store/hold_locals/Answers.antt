-- The frame has the locals taken so far.
use Rattle.std.proofs.Common.{◌≡◌, ◌++◌, ◌∷◌, [], append-nil, append_assoc, ap, sym, ◌∙◌, length, arith}
use Rattle.std.specs.Vec.Iter.{into_iter_items}
use Rattle.dp_vars.specs.Stores.{with_frame}
use Rattle.dp_vars.proofs.PushedLemmas.{none_left, set_local-more, set_local-some}
use Rattle.dp_vars.proofs.TablesLemmas.{on_err}
use Rattle.dp_vars.proofs.store.Store.hold_locals.Goals as goal

pub loop-local-init : goal.loop-local-init
loop-local-init g c = record {
  some = c.requires;
  held = λ store back is. is;
  taken = c.into_iter-local-iterator.ensures.into_iter_gives.0;
  many = omega (
    arith,
    c.into_iter-local-iterator.ensures.into_iter_gives.1,
    ap length c.into_iter-local-iterator.ensures.into_iter_gives.0,
    c.args.locals.ok,
  );
}

pub returns-in_err-hold_local-clause-err : goal.returns-in_err-hold_local-clause-err
returns-in_err-hold_local-clause-err g c store back is =
    let at = c.loop-local in
    on_err c.from_residual.result (at.yielded, c.in_err-hold_local.ensures.err ∙ at.invariant.held store back is)

pub loop-local-preserved : goal.loop-local-preserved
loop-local-preserved g c =
    let at = c.loop-local in
    let steps : into_iter_items at.local-iterator ≡ c.in-Some.local ∷ into_iter_items c.next.new.self = c.in-Some.ensures.steps.0 in
    record {
      some = set_local-some at.self c.hold_local.new.self c.bytes.result.now c.in-Some.local.value c.in_ok-hold_local.ensures.ok at.invariant.some;
      held = λ store back is.
          set_local-more at.self c.hold_local.new.self store back at.yielded c.in-Some.local c.bytes.result.now c.in_ok-hold_local.ensures.ok c.bytes.ensures (at.invariant.held store back is);
      taken = append_assoc at.yielded (c.in-Some.local ∷ []) (into_iter_items c.next.new.self)
          ∙ ap (λ left. at.yielded ++ left) (sym steps) ∙ at.invariant.taken;
      many = omega (arith, at.invariant.many, c.in-Some.ensures.steps.1, ap length steps);
    }

pub returns-clause-ok : goal.returns-clause-ok
returns-clause-ok g c store back is =
    let at = c.loop-local in
    let none : into_iter_items at.local-iterator ≡ [] =
    none_left (into_iter_items at.local-iterator) (sym at.invariant.many ∙ c.in-None.ensures.steps.0) in
    at.invariant.held store back is ∙ ap (with_frame store back)
    (sym (append-nil at.yielded) ∙ ap (λ left. at.yielded ++ left) (sym none) ∙ at.invariant.taken)
