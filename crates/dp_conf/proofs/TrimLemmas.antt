-- The effect of the last byte of a text on its trimmed end.
use Rattle.std.proofs.Common.{◌≡◌, ℕ, true, false, cond, List, [], ◌∷◌, ◌++◌, refl, ap, ◌∙◌}
use Rattle.dp_conf.specs.Blanks.{is_blank, before_kept, trim_end}

-- a blank at the end is left out
pub trim_end-push_blank : (xs : List ℕ) (b : ℕ) → is_blank b ≡ true → trim_end (xs ++ b ∷ []) ≡ trim_end xs
trim_end-push_blank [] b e = ap (λ t. cond t [] (b ∷ [])) e
trim_end-push_blank (x ∷ xs) b e = ap (before_kept x) (trim_end-push_blank xs b e)

-- everything before a kept byte is kept
before_kept-push : (x : ℕ) (xs : List ℕ) (b : ℕ) → before_kept x (xs ++ b ∷ []) ≡ x ∷ (xs ++ b ∷ [])
before_kept-push x [] b = refl
before_kept-push x (y ∷ xs) b = refl

-- nothing is left out after a last byte that is not a blank
pub trim_end-push_kept : (xs : List ℕ) (b : ℕ) → is_blank b ≡ false → trim_end (xs ++ b ∷ []) ≡ xs ++ b ∷ []
trim_end-push_kept [] b e = ap (λ t. cond t [] (b ∷ [])) e
trim_end-push_kept (x ∷ xs) b e = ap (before_kept x) (trim_end-push_kept xs b e) ∙ before_kept-push x xs b
