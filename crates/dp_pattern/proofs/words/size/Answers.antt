use Rattle.std.proofs.Common.{◌+◌, ◌*◌, slice_index, length, length-append, ap, ◌∙◌, arith, rules}
use Rattle.std.proofs.lemmas.Nat.{ones-le}
use Rattle.dp_pattern.specs.Classes.{has_bit, members_in}
use Rattle.dp_pattern.proofs.MemberLemmas.{members_from, members_from-end}
use Rattle.dp_pattern.proofs.WordLemmas.{members_from-word, length-members_in}
use Rattle.dp_pattern.proofs.words.size.Goals as goal

pub loop-word-preserved : goal.loop-word-preserved
loop-word-preserved c =
    let words = c.args.words.now in
    let place = c.loop-word.word-index in
    let here = members_in (slice_index words place) (64 * place) in
    let after = members_from (has_bit words) (64 * (place + 1)) in
    let sizes = ap length (members_from-word words place (omega arith)) ∙ length-append here after in
    let ones = length-members_in (slice_index words place) (64 * place) (search rules) in
    record {
      bound = omega (arith, ones-le 64 (slice_index words place) (search rules));
      whole = omega (arith, sizes, ones);
    }

pub returns : goal.returns
returns c =
    let none = ap length (members_from-end (has_bit c.args.words.now) (64 * c.loop-word.word-index) (omega arith)) in
    omega (arith, none)
