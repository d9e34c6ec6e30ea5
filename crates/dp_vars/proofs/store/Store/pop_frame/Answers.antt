use Rattle.std.proofs.Common.{◌≡◌, ◌∙◌, suc, [], ◌∷◌, ◌++◌, ap, sym, subst, length, fold, arith}
use Rattle.std.specs.Option.{option_map}
use Rattle.std.proofs.lemmas.List.{length-append}
use Rattle.dp_vars.specs.Stores.{innermost, without_frame}
use Rattle.dp_vars.specs.steps.Tables.{IsBound, frames_from, store_of, unbound_at}
use Rattle.dp_vars.proofs.BoundLemmas.{popped-with_binding}
use Rattle.dp_vars.proofs.SettingLemmas.{innermost-pushed, popped_view}
use Rattle.dp_vars.proofs.store.Store.pop_frame.Goals as goal

pub invariant_of-self-2 : goal.invariant_of-self-2
invariant_of-self-2 g c =
    let cut : c.self.inside.frames.items ≡ c.pop.new.self.items ++ c.in_ok-frame.frame ∷ [] = c.in_ok-frame.ensures.items in
    let deep : c.len-depth.result ≡ suc (length c.pop.new.self.items) =
    omega (arith, length-append c.pop.new.self.items (c.in_ok-frame.frame ∷ []), ap length cut, c.self.inside.frames.ok) in
    subst (λ es. IsBound es c.pop.new.self.items)
    (sym (c.unbind_all.ensures ∙ ap (λ d. fold (unbound_at d) c.self.inside.table c.in_ok-frame.frame.numbers) deep))
    (popped-with_binding c.self.inside.table c.pop.new.self.items c.in_ok-frame.frame (subst (IsBound c.self.inside.table) cut c.self.invariant))

pub returns-clause-left : goal.returns-clause-left
returns-clause-left g c =
    let cut : c.self.inside.frames.items ≡ c.pop.new.self.items ++ c.in_ok-frame.frame ∷ [] = c.in_ok-frame.ensures.items in
    let deep : c.len-depth.result ≡ suc (length c.pop.new.self.items) =
    omega (arith, length-append c.pop.new.self.items (c.in_ok-frame.frame ∷ []), ap length cut, c.self.inside.frames.ok) in
    ap (λ es. store_of es c.pop.new.self.items)
    (c.unbind_all.ensures ∙ ap (λ d. fold (unbound_at d) c.self.inside.table c.in_ok-frame.frame.numbers) deep)
    ∙ popped_view c.self.inside.table c.pop.new.self.items c.in_ok-frame.frame
    ∙ ap (λ hs. without_frame (store_of c.self.inside.table hs)) (sym cut)
    ∙ ap without_frame c.self.view_is

pub returns-clause-back : goal.returns-clause-back
returns-clause-back g c =
    let cut : c.self.inside.frames.items ≡ c.pop.new.self.items ++ c.in_ok-frame.frame ∷ [] = c.in_ok-frame.ensures.items in
    ap (option_map (λ frame. frame.back)) (sym (innermost-pushed c.self.inside.table c.pop.new.self.items c.in_ok-frame.frame))
    ∙ ap (λ hs. option_map (λ frame. frame.back) (innermost (frames_from 1 c.self.inside.table hs))) (sym cut)
    ∙ ap (λ store. option_map (λ frame. frame.back) (innermost store.frames)) c.self.view_is
