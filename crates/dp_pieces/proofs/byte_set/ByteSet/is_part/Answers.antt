use Rattle.std.proofs.Common.{◌+◌, ◌*◌, ap, sym, ◌∙◌, refl}
use Rattle.dp_pieces.specs.Sets.{set_by}
use Rattle.dp_pieces.proofs.BitLemmas.{bit-at-place}
use Rattle.dp_pieces.proofs.byte_set.ByteSet.is_part.Goals as goal

pub returns-then-not-are_bits_of-clause-no_part : goal.returns-then-not-are_bits_of-clause-no_part
returns-then-not-are_bits_of-clause-no_part c = λ no part. c.if-not-are_bits_of.ensures.no_part refl (λ i below has.
    let b = 64 * c.loop-i.i + i in
    sym (bit-at-place c.other.inside.words c.loop-i.i i below) ∙ (ap (λ words. set_by words b) c.other.view_is
    ∙ part b (ap (λ words. set_by words b) (sym c.self.view_is) ∙ (bit-at-place c.self.inside.words c.loop-i.i i below ∙ has))))
