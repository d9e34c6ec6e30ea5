use Rattle.std.proofs.Common.{◌||◌, ap, ◌∙◌, drop, arith}
use Rattle.std.proofs.lemmas.List.{drop_all}
use Rattle.dp_pieces.proofs.SetLemmas.{none-set, text-end}
use Rattle.dp_pieces.specs.Pieces.{bytes_in}
use Rattle.dp_pieces.specs.Sets.{set_by}
use Rattle.dp_pieces.proofs.piece.bytes_in.Goals as goal

pub loop-byte-init : goal.loop-byte-init
loop-byte-init c = λ b. ap (λ t. t || bytes_in c.args.text.now b) (none-set c.none-set.result c.none-set.ensures b)

pub returns : goal.returns
returns c b =
    text-end (set_by c.loop-byte.set b) (drop c.loop-byte.byte-index c.args.text.now) b (drop_all c.loop-byte.byte-index c.args.text.now (omega arith)) ∙ c.loop-byte.invariant b
