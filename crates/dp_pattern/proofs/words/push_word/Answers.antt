use Rattle.std.proofs.Common.{◌≡◌, ◌+◌, ◌++◌, ◌∷◌, [], append_assoc, append-nil, sym, ap, ◌∙◌, arith, rules}
use Rattle.dp_pattern.specs.Classes.{members_in}
use Rattle.dp_pattern.proofs.WordLemmas.{lowest, without_lowest, without_lowest-lt, members_in-lowest, members_in-none}
use Rattle.dp_pattern.proofs.words.push_word.Goals as goal

pub loop-left-smaller : goal.loop-left-smaller
loop-left-smaller c = without_lowest-lt c.loop-left.left (omega arith) (search rules)

pub loop-left-preserved : goal.loop-left-preserved
loop-left-preserved c =
    let left = c.loop-left.left in
    let front = c.loop-left.bytes.items in
    let member = c.args.first + lowest left in
    let others = members_in (without_lowest left) c.args.first in
    let pushed : c.push.new.self.items ≡ front ++ member ∷ [] = search rules in
    ap (λ xs. xs ++ others) pushed
    ∙ append_assoc front (member ∷ []) others
    ∙ ap (λ xs. front ++ xs) (sym (members_in-lowest left (omega arith) (search rules) c.args.first))
    ∙ c.loop-left.invariant

pub returns : goal.returns
returns c =
    let empty : c.loop-left.left ≡ 0 = omega arith in
    let none = ap (λ word. members_in word c.args.first) empty ∙ members_in-none c.args.first in
    sym (ap (λ xs. c.loop-left.bytes.items ++ xs) none ∙ append-nil c.loop-left.bytes.items) ∙ c.loop-left.invariant
