use Rattle.std.proofs.Common.{◌++◌, ap, ◌∙◌}
use Rattle.dp_pieces.specs.Shown.{shown_all}
use Rattle.dp_pieces.proofs.PartLemmas.{front-any, front-push, shown_piece-after}
use Rattle.dp_pieces.proofs.arguments.front.Goals as goal

pub returns-in-AnyOf : goal.returns-in-AnyOf
returns-in-AnyOf c =
    shown_piece-after c.loop-count.kept.items c.extend_from_slice.new.self.items c.in_ok-all.all.items (c.in_ok-extend_from_slice.ensures.items ∙ ap (λ more. c.loop-count.kept.items ++ more) c.deref.ensures.value)
    ∙ (ap (λ ps. shown_all c.loop-count.kept.items ++ ps)
    (c.in_ok-all.ensures ∙ front-any c.loop-count.count c.loop-count.left.now c.in-Some.rest.now c.in-Some.first.now c.in-AnyOf.field-0 c.in-Some.ensures.cases.0 c.in-AnyOf.is c.loop-count-test.true)
    ∙ c.loop-count.invariant)

pub loop-count-preserved : goal.loop-count-preserved
loop-count-preserved c =
    front-push c.loop-count.count c.loop-count.kept.items c.push.new.self.items c.loop-count.left.now c.in-Some.rest.now c.in-Some.first.now
    c.in_ok-push.ensures.items c.in-Some.ensures.cases.0 c.in_default-first.not-AnyOf c.loop-count-test.true
    ∙ c.loop-count.invariant
