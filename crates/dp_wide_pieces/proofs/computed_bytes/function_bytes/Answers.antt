use Rattle.std.proofs.Common.{◌||◌, ◌∙◌}
use Rattle.dp_wide_pieces.proofs.computed_bytes.function_bytes.Goals as goal

pub returns : goal.returns
returns c = λ b.
    c.with.ensures b
    ∙ (λ i. c.all.ensures b i
    || (c.with-own.ensures b ∙ (λ j. c.either_case.ensures b j || (c.with-written.ensures b ∙ (λ k. c.digits.ensures b k || c.marks.ensures b k)) j)) i)
