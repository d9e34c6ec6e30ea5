use Rattle.dp_conf.specs.Escape.{escape_text}
use Rattle.dp_lister.proofs.SinkLemmas.{TakesFirst-none, escaped-more, escaped-last}
use Rattle.dp_lister.proofs.listing.put_escaped.Goals as goal

pub loop-part-init : goal.loop-part-init
loop-part-init g c = TakesFirst-none g.S.ListingSink.laws c.args.out.now (escape_text c.args.text.now)

pub loop-part-preserved : goal.loop-part-preserved
loop-part-preserved g c =
    escaped-more g.S.ListingSink.laws c.args.out.now c.loop-part.out c.put_part.new.out c.loop-part.left.now c.in-Some.part.now c.in-Some.rest.now (escape_text c.args.text.now)
    c.loop-part.invariant c.put_part.ensures c.in-Some.ensures

pub returns : goal.returns
returns g c =
    escaped-last g.S.ListingSink.laws c.args.out.now c.loop-part.out c.put.new.self c.loop-part.left.now (escape_text c.args.text.now)
    c.loop-part.invariant c.put.ensures c.in_default.ensures
