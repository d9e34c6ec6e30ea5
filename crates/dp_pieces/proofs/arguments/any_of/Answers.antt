use Rattle.std.proofs.Common.{◌∙◌}
use Rattle.dp_pieces.specs.Pieces.{pieces_set}
use Rattle.dp_pieces.specs.Sets.{set_by}
use Rattle.dp_pieces.specs.Shown.{shown_all}
use Rattle.dp_pieces.proofs.SetLemmas.{any_bytes_of-same}
use Rattle.dp_pieces.proofs.arguments.any_of.Goals as goal

pub returns : goal.returns
returns c = c.in_ok-all.ensures ∙ any_bytes_of-same (set_by c.bytes_of.result) (pieces_set (shown_all c.args.pieces.now)) c.bytes_of.ensures
