use Rattle.std.proofs.Common.{sym, subst, ◌∙◌, reverse, map}
use Rattle.dp_pieces.specs.steps.Reader.{Read, kinds_of}
use Rattle.dp_pieces.specs.Shown.{shown_all}
use Rattle.dp_pieces.specs.steps.ReadSoFar.{read_of, shown_open}
use Rattle.dp_pieces.proofs.OnWay.{IsOnWay, on_way-first, on_way-after, on_way-over}
use Rattle.dp_pieces.proofs.reader.read_pieces.Goals as goal

pub loop-mark-init : goal.loop-mark-init
loop-mark-init g c =
    subst (λ (read : Read). IsOnWay (g.G.GroupPieces.groups c.args.groups.now) c.args.text.now read c.args.text.now)
    (λ i. record { pieces = shown_all (sym c.in_ok-pieces.ensures.items i); waiting = reverse (map shown_open (sym c.new.ensures.items i)) })
    (on_way-first (g.G.GroupPieces.groups c.args.groups.now) c.args.text.now)

pub loop-mark-preserved : goal.loop-mark-preserved
loop-mark-preserved g c =
    on_way-after (g.G.GroupPieces.groups c.args.groups.now) c.args.text.now (read_of c.loop-mark.reading) (read_of c.take.new.self) c.loop-mark.rest.now c.in-Some.after.now c.in-Some.mark
    c.loop-mark.invariant (c.in-Some.ensures.marked (kinds_of (read_of c.loop-mark.reading).waiting) (sym c.innermost.ensures)) c.in_ok-take.ensures

pub returns : goal.returns
returns g c = c.finish.ensures ∙ on_way-over (g.G.GroupPieces.groups c.args.groups.now) c.args.text.now (read_of c.loop-mark.reading) c.loop-mark.rest.now c.loop-mark.invariant c.in_default.ensures.marked
