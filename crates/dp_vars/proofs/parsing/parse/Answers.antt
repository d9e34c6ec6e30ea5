use Rattle.std.proofs.Common.{sym, subst}
use Rattle.dp_vars.proofs.PiecesLemmas.{IsOnWay, on_way-first, on_way-after, on_way-over, stands}
use Rattle.dp_vars.proofs.parsing.parse.Goals as goal

pub loop-mark-init : goal.loop-mark-init
loop-mark-init c = subst (λ so_far. IsOnWay c.args.text.now so_far c.args.text.now) (sym c.new-parsing.ensures) (on_way-first c.args.text.now)

pub take-requires-clause-stands : goal.take-requires-clause-stands
take-requires-clause-stands c =
    stands c.args.text.now c.loop-mark.parsing c.loop-mark.rest.now c.in-Some.mark c.in-Some.after.now c.loop-mark.invariant
    (c.in-Some.ensures.marked c.loop-mark.parsing.waiting (sym c.innermost.ensures))

pub loop-mark-preserved : goal.loop-mark-preserved
loop-mark-preserved c =
    on_way-after c.args.text.now c.loop-mark.parsing c.loop-mark.rest.now c.in-Some.mark c.in-Some.after.now c.loop-mark.invariant
    (c.in-Some.ensures.marked c.loop-mark.parsing.waiting (sym c.innermost.ensures)) c.take.new.self c.in_ok-take.ensures

pub returns : goal.returns
returns c = on_way-over c.args.text.now c.loop-mark.parsing c.loop-mark.rest.now c.loop-mark.invariant c.in_default.ensures.marked
