use Rattle.dp_lister.specs.Listing.{global_line}
use Rattle.dp_lister.proofs.SinkLemmas.{lines-more}
use Rattle.dp_lister.proofs.listing.push_each_global.Goals as goal

pub loop-global-preserved : goal.loop-global-preserved
loop-global-preserved g c =
    lines-more g.S.ListingSink.laws global_line c.args.globals.now c.loop-global.global-index c.global-item.result c.args.out.now c.loop-global.out c.push_global.new.out
    c.loop-global-test.true c.global-item.is c.loop-global.invariant c.push_global.ensures
