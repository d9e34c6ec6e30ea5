use Rattle.std.proofs.Common.{◌≡◌, true, false, sym, ◌∙◌, eq-eqb}
use Rattle.dp_pieces.proofs.BitLemmas.{bit-of-part, part-adds-none}
use Rattle.dp_pieces.proofs.byte_set.are_bits_of.Goals as goal

pub returns-clause-part : goal.returns-clause-part
returns-clause-part c = bit-of-part c.args.word c.args.other

pub returns-clause-no_part : goal.returns-clause-no_part
returns-clause-no_part c = λ differs part.
    let no : false ≡ true = sym differs ∙ eq-eqb _ _ (part-adds-none c.args.word c.args.other c.ranges.word.fits c.ranges.other.fits part) in
    let bottom : ⊥ = cc in bottom
