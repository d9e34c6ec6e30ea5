use Rattle.std.proofs.Common.{ℕ, Bor, List, ◌∷◌, ◌++◌, map, ap, sym, ◌∙◌}
use Rattle.std.specs.List.{flat_map, join_with_byte}
use Rattle.dp_wide.proofs.PartsLemmas.{join_with_byte-each}
use Rattle.dp_wide.proofs.texts.join.Goals as goal

pub returns : goal.returns
returns c =
    let byte = c.args.delimiter in
    let rest = c.in-Some.rest.now in
    c.in_ok-push_each.ensures
    ∙ ap (λ (front : List ℕ). front ++ flat_map (λ (x : Bor (List ℕ)). byte ∷ x.now) rest) c.in_ok-joined.ensures.items
    ∙ sym (join_with_byte-each byte c.in-Some.first.now rest)
    ∙ ap (λ (parts : List (Bor (List ℕ))). join_with_byte byte (map (λ x. x.now) parts)) (sym c.in-Some.ensures.cases.0)
