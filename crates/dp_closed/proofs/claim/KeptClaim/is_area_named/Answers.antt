use Rattle.std.proofs.Common.{refl}
use Rattle.std.specs.Prelude.{codes}
use Rattle.dp_pieces.specs.Pieces.{pieces_set}
use Rattle.dp_pieces.specs.Sets.{set_by}
use Rattle.dp_pieces.specs.Shown.{shown_all}
use Rattle.dp_pieces.specs.Tables.{names_in}
use Rattle.dp_closed.proofs.ClosedLemmas.{part-by}
use Rattle.dp_closed.proofs.claim.KeptClaim.is_area_named.Goals as goal

pub returns : goal.returns
returns c = λ yes settings. record {
  exten = part-by (set_by c.set_of-dialled.result) (set_by c.all.result.now) (pieces_set (shown_all c.args.exten.now)) (names_in c.args.self.names.now).all
      c.set_of-dialled.ensures c.all.ensures (c.is_part.ensures.part c.if-not-is_part.false);
  context = part-by (set_by c.set_of.result) (set_by c.all-2.result.now) (pieces_set (shown_all c.args.context.now)) (names_in c.args.self.names.now).all
      c.set_of.ensures c.all-2.ensures (c.is_part-2.ensures.part c.if-not-is_part-2.false);
  invalid = part-by (set_by c.set_of-dialled.result) ((names_in c.args.self.names.now).bytes (codes "INVALID_EXTEN")) (pieces_set (shown_all c.args.exten.now))
      ((names_in c.args.self.names.now).bytes (codes "INVALID_EXTEN")) c.set_of-dialled.ensures refl (c.has.ensures yes);
}
