-- The findings on one more context or entry.
use Rattle.std.proofs.Common.{◌≡◌, ℕ, zero, suc, ◌+◌, List, [], ◌∷◌, ◌++◌, add-one, append_assoc, sym, ap, ◌∙◌, arith}
use Rattle.std.specs.List.{flat_map, range_with_len}
use Rattle.std.proofs.lemmas.List.{flat_map_more}
use Rattle.std.proofs.lemmas.List.FromFn.{map-range_with_len_more}
use Rattle.dp_plan.specs.Ranking.{numbers_of}
use Rattle.dp_plan.specs.declared.entry.EntryId.{EntryId}
use Rattle.dp_audit.specs.declared.finding.Finding.{Finding}

-- one more number
range-push : (a n : ℕ) → range_with_len a (suc n) ≡ range_with_len a n ++ (a + n) ∷ []
range-push a zero = ap (λ x. x ∷ []) (omega arith)
range-push a (suc n) = ap (λ (ns : List ℕ). a ∷ ns) (range-push (a + 1) n ∙ ap (λ x. range_with_len (a + 1) n ++ x ∷ []) (omega arith))

-- with the findings on one more context
pub contexts_more : {X : Type 0} (f : ℕ → List X) (n : ℕ) → flat_map f (range_with_len 0 n) ++ f n ≡ flat_map f (range_with_len 0 (n + 1))
contexts_more f n =
    let one : range_with_len 0 (n + 1) ≡ range_with_len 0 n ++ n ∷ [] = ap (range_with_len 0) (add-one n) ∙ (range-push 0 n ∙ ap (λ x. range_with_len 0 n ++ x ∷ []) (omega arith)) in
    let all : flat_map f (range_with_len 0 n) ++ f n ≡ flat_map f (range_with_len 0 n ++ n ∷ []) = flat_map_more f [] (range_with_len 0 n) n in
    all ∙ ap (flat_map f) (sym one)

-- with the findings on one more entry
pub entries_more : {X : Type 0} (f : EntryId → List X) (before : List X) (number n : ℕ)
    → (before ++ flat_map f (numbers_of number n)) ++ f (record { context = number; entry = n }) ≡ before ++ flat_map f (numbers_of number (n + 1))
entries_more f before number n =
    flat_map_more f before (numbers_of number n) (record { context = number; entry = n })
    ∙ ap (λ ids. before ++ flat_map f ids) (sym (map-range_with_len_more (λ (k : ℕ). record { context = number; entry = k }) 0 n n (omega arith)))

-- five lists after others
pub five : (before a b c d e : List Finding) → ((((before ++ a) ++ b) ++ c) ++ d) ++ e ≡ before ++ (a ++ b ++ c ++ d ++ e)
five before a b c d e =
    ap (λ (xs : List Finding). (((xs ++ c) ++ d) ++ e)) (append_assoc before a b)
    ∙ ap (λ (xs : List Finding). (xs ++ d) ++ e) (append_assoc before (a ++ b) c)
    ∙ ap (λ (xs : List Finding). xs ++ e) (append_assoc before (a ++ b ++ c) d)
    ∙ append_assoc before (a ++ b ++ c ++ d) e
