use Rattle.std.proofs.Common.{◌==◌, ◌||◌, ap, ◌∙◌}
use Rattle.dp_pieces.specs.Sets.{set_by}
use Rattle.dp_pieces.proofs.BlankLemmas.{only-one}
use Rattle.dp_pieces.proofs.byte_set.ByteSet.of.Goals as goal

pub returns : goal.returns
returns c = λ b. c.put.ensures b ∙ (ap (λ has. b == c.args.byte || set_by has b) c.none-set.ensures ∙ only-one c.args.byte b)
