use Rattle.std.proofs.Common.{◌+◌, ◌*◌, ◌<◌, slice_index, refl, sym, ap, ◌∙◌, arith, rules}
use Rattle.dp_pattern.specs.Classes.{has_bit}
use Rattle.dp_pattern.proofs.WordLemmas.{lowest, has_bit-lowest}
use Rattle.dp_pattern.proofs.class_members.first_of.Goals as goal

pub returns-then-word-ne0 : goal.returns-then-word-ne0
returns-then-word-ne0 c =
    let words = c.args.words.now in
    let word = slice_index words c.from.result in
    let some : 0 < word = omega arith in
    ap (λ k. has_bit words (64 * k + lowest word)) (sym c.from.ensures)
    ∙ has_bit-lowest word some (search rules) words c.from.result refl
