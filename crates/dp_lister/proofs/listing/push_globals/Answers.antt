use Rattle.std.proofs.Common.{◌∙◌, sym}
use Rattle.dp_lister.proofs.PiecesLemmas.{globals_pieces}
use Rattle.dp_lister.proofs.SinkLemmas.{two}
use Rattle.dp_lister.proofs.listing.push_globals.Goals as goal

pub returns : goal.returns
returns g c =
    two g.S.ListingSink.laws _ _ _ _ _ _ (globals_pieces c.args.globals.now (sym c.is_empty.ensures ∙ c.if-is_empty.false)) c.put.ensures c.push_each_global.ensures
