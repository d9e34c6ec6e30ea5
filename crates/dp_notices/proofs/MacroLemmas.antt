-- The lines that end macros, with one more context or one more entry.
use Rattle.std.proofs.Common.{◌≡◌, ℕ, zero, suc, ◌+◌, List, [], ◌∷◌, ◌++◌, add-one, sym, ap, ◌∙◌, arith}
use Rattle.std.specs.List.{flat_map, range_with_len}
use Rattle.std.proofs.lemmas.List.{flat_map_more}
use Rattle.std.proofs.lemmas.List.FromFn.{map-range_with_len_more}
use Rattle.dp_plan.specs.Ranking.{numbers_of}
use Rattle.dp_plan.specs.declared.entry.EntryId.{EntryId}

-- the numbers with one more
range-push : (a n : ℕ) → range_with_len a (suc n) ≡ range_with_len a n ++ (a + n) ∷ []
range-push a zero = ap (λ x. x ∷ []) (omega arith)
range-push a (suc n) = ap (λ (ns : List ℕ). a ∷ ns) (range-push (a + 1) n ∙ ap (λ x. range_with_len (a + 1) n ++ x ∷ []) (omega arith))

-- the lines with those of one more context
pub contexts_more : {X : Type 0} (f : ℕ → List X) (n : ℕ) → flat_map f (range_with_len 0 n) ++ f n ≡ flat_map f (range_with_len 0 (n + 1))
contexts_more f n =
    let one : range_with_len 0 (n + 1) ≡ range_with_len 0 n ++ n ∷ [] = ap (range_with_len 0) (add-one n) ∙ (range-push 0 n ∙ ap (λ x. range_with_len 0 n ++ x ∷ []) (omega arith)) in
    let all : flat_map f (range_with_len 0 n) ++ f n ≡ flat_map f (range_with_len 0 n ++ n ∷ []) = flat_map_more f [] (range_with_len 0 n) n in
    all ∙ ap (flat_map f) (sym one)

-- the lines with those of one more entry
pub entries_more : {X : Type 0} (f : EntryId → List X) (number n : ℕ)
    → flat_map f (numbers_of number n) ++ f (record { context = number; entry = n }) ≡ flat_map f (numbers_of number (n + 1))
entries_more f number n =
    flat_map_more f [] (numbers_of number n) (record { context = number; entry = n })
    ∙ ap (flat_map f) (sym (map-range_with_len_more (λ (k : ℕ). record { context = number; entry = k }) 0 n n (omega arith)))
