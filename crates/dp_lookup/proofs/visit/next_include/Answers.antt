use Rattle.std.proofs.Common.{◌∷◌, ◌∙◌, refl, sym, ap, arith}
use Rattle.std.specs.Prelude.{slice_get}
use Rattle.std.proofs.lemmas.Option.{slice_get_read, slice_get_past}
use Rattle.dp_lookup.specs.SearchOrder.{link_of}
use Rattle.dp_lookup.specs.steps.Filling.{pending}
use Rattle.dp_lookup.proofs.FillingLemmas.{next_some, next_none}
use Rattle.dp_lookup.proofs.visit.next_include.Goals as goal

pub returns-in-Some-get-clause-next : goal.returns-in-Some-get-clause-next
returns-in-Some-get-clause-next c =
    let found = c.in-Some-get.ensures.lookup.3 in
    let here = ap (λ names. slice_get names c.in-Some.frame.next) (sym c.includes_at.ensures)
    ∙ slice_get_read c.includes_at.result.now _ c.in-Some.frame.next c.in-Some-get.name.now refl found.0 (found.1 c.in-Some-get.name.now) in
    sym c.loop-frame.invariant.same
    ∙ (next_some c.args.plan.now c.loop-frame.frames.items c.pop.new.self.items c.in-Some.frame c.in-Some-get.name.now c.in-Some.ensures.items here
    ∙ ap (λ frames. link_of c.args.plan.now c.in-Some-get.name.now ∷ pending c.args.plan.now frames) (sym c.push_reserved.ensures.items))

pub loop-frame-preserved : goal.loop-frame-preserved
loop-frame-preserved c =
    let ended = c.in_default-get.ensures.lookup.3 in
    let none = ap (λ names. slice_get names c.in-Some.frame.next) (sym c.includes_at.ensures)
    ∙ slice_get_past c.includes_at.result.now c.in-Some.frame.next ended in
    record {
      same = sym (next_none c.args.plan.now c.loop-frame.frames.items c.pop.new.self.items c.in-Some.frame c.in-Some.ensures.items none) ∙ c.loop-frame.invariant.same;
      capacity = c.pop.ensures.capacity ∙ c.loop-frame.invariant.capacity;
      short = omega arith;
    }
