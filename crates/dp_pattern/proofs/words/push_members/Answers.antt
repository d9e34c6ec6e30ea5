use Rattle.std.proofs.Common.{◌≡◌, ◌+◌, ◌*◌, ◌++◌, slice_index, append_assoc, append-nil, sym, ap, ◌∙◌, arith, rules}
use Rattle.dp_pattern.specs.Classes.{has_bit, members_in}
use Rattle.dp_pattern.proofs.MemberLemmas.{members_from, members_from-end}
use Rattle.dp_pattern.proofs.WordLemmas.{members_from-word}
use Rattle.dp_pattern.proofs.words.push_members.Goals as goal

pub loop-place-preserved : goal.loop-place-preserved
loop-place-preserved c =
    let words = c.args.words.now in
    let place = c.loop-place.place in
    let front = c.loop-place.bytes.items in
    let here = members_in (slice_index words place) (64 * place) in
    let after = members_from (has_bit words) (64 * (place + 1)) in
    let pushed : c.push_word.new.bytes.items ≡ front ++ here = search rules in
    ap (λ xs. xs ++ after) pushed
    ∙ append_assoc front here after
    ∙ ap (λ xs. front ++ xs) (sym (members_from-word words place (omega arith)))
    ∙ c.loop-place.invariant

pub returns : goal.returns
returns c =
    let none = members_from-end (has_bit c.args.words.now) (64 * c.loop-place.place) (omega arith) in
    sym (ap (λ xs. c.loop-place.bytes.items ++ xs) none ∙ append-nil c.loop-place.bytes.items) ∙ c.loop-place.invariant
