-- The report on one more number.
use Rattle.std.proofs.Common.{◌≡◌, ℕ, zero, suc, ◌+◌, ◌<◌, Bool, true, false, ◌||◌, List, [], ◌∷◌, ◌++◌, add-one, sym, ap, subst, ◌∙◌, arith}
use Rattle.std.specs.List.{flat_map, list_any, range_with_len}
use Rattle.std.proofs.lemmas.List.{flat_map_more}
use Rattle.std.proofs.lemmas.List.Folds.{list_any-append, list_any_at}
use Rattle.std.proofs.lemmas.List.FromFn.{get_or-range_with_len, length-range_with_len}

-- one more number
range-push : (a n : ℕ) → range_with_len a (suc n) ≡ range_with_len a n ++ (a + n) ∷ []
range-push a zero = ap (λ x. x ∷ []) (omega arith)
range-push a (suc n) = ap (λ (ns : List ℕ). a ∷ ns) (range-push (a + 1) n ∙ ap (λ x. range_with_len (a + 1) n ++ x ∷ []) (omega arith))

pub range-next : (n : ℕ) → range_with_len 0 (n + 1) ≡ range_with_len 0 n ++ n ∷ []
range-next n = ap (range_with_len 0) (add-one n) ∙ (range-push 0 n ∙ ap (λ x. range_with_len 0 n ++ x ∷ []) (omega arith))

-- with the report on it
pub told-next : {A : Type 0} (f : ℕ → List A) (before : List A) (n : ℕ) → (before ++ flat_map f (range_with_len 0 n)) ++ f n ≡ before ++ flat_map f (range_with_len 0 (n + 1))
told-next f before n = flat_map_more f before (range_with_len 0 n) n ∙ ap (λ ns. before ++ flat_map f ns) (sym (range-next n))

-- no number up to this one passes the test
pub none-next : (p : ℕ → Bool) (n : ℕ) → list_any p (range_with_len 0 n) ≡ false → p n ≡ false → list_any p (range_with_len 0 (n + 1)) ≡ false
none-next p n none fails =
    ap (list_any p) (range-next n)
    ∙ (list_any-append p (range_with_len 0 n) (n ∷ [])
    ∙ (ap (λ a. a || (p n || false)) none ∙ ap (λ a. a || false) fails))

-- one of the numbers does
pub one-of : (p : ℕ → Bool) (n k : ℕ) → k < n → p k ≡ true → list_any p (range_with_len 0 n) ≡ true
one-of p n k below passes =
    let same : 0 + k ≡ k = omega arith in
    list_any_at p (range_with_len 0 n) k 0 (subst (λ m. k < m) (sym (length-range_with_len 0 n)) below)
    (ap p (get_or-range_with_len 0 n k 0 below ∙ same) ∙ passes)
