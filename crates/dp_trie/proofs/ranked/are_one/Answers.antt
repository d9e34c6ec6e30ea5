use Rattle.std.proofs.Common.{◌≡◌, rules, nat_eq, sym, ◌∙◌}
use Rattle.std.specs.Cmp.Lexicographic.{pointwise}
use Rattle.dp_pattern.specs.Name.{IsName}
use Rattle.dp_plan.specs.Extensions.{same_name}
use Rattle.dp_trie.proofs.ranked.are_one.Goals as goal

pub returns : goal.returns
returns c =
    let left : IsName c.args.left.now = search rules in
    let right : IsName c.args.right.now = search rules in
    let law = c.same_names_are_equal.ensures c.args.left.now c.args.right.now left right in
    let compared : c.eq.result ≡ same_name c.args.left.now c.args.right.now = c.eq.ensures ∙ (λ i. pointwise nat_eq (c.spelling.ensures i) (c.spelling-2.ensures i)) in
    (λ is. law.0 (sym compared ∙ is), λ same. compared ∙ law.1 same)
