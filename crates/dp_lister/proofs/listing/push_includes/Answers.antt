use Rattle.dp_lister.specs.Listing.{include_line}
use Rattle.dp_lister.proofs.SinkLemmas.{lines-more}
use Rattle.dp_lister.proofs.listing.push_includes.Goals as goal

pub loop-name-preserved : goal.loop-name-preserved
loop-name-preserved g c =
    lines-more g.S.ListingSink.laws include_line c.args.includes.now c.loop-name.name-index c.name-item.result c.args.out.now c.loop-name.out c.push_include.new.out
    c.loop-name-test.true c.name-item.is c.loop-name.invariant c.push_include.ensures
