use Rattle.std.proofs.Common.{◌||◌, ap, ◌∙◌, drop, arith}
use Rattle.std.proofs.lemmas.List.{drop_all}
use Rattle.dp_pieces.proofs.BlankLemmas.{none-has}
use Rattle.dp_pieces.specs.Pieces.{bytes_in}
use Rattle.dp_pieces.specs.Sets.{set_by}
use Rattle.dp_closed.proofs.SetLemmas.{text-end}
use Rattle.dp_closed.proofs.sets.bytes_in.Goals as goal

pub loop-byte-init : goal.loop-byte-init
loop-byte-init c = λ b. ap (λ t. t || bytes_in c.args.text.now b) (ap (λ has. set_by has b) c.none-set.ensures ∙ none-has 4 b)

pub returns : goal.returns
returns c =
    text-end (set_by c.loop-byte.set) (bytes_in c.args.text.now) (drop c.loop-byte.byte-index c.args.text.now) (drop_all c.loop-byte.byte-index c.args.text.now (omega arith)) c.loop-byte.invariant
