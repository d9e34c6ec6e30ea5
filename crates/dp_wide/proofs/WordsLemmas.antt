-- A fact about a name that only depends on comparing it with words holds for each name that is one of them.
use Rattle.std.proofs.Common.{◌≡◌, ℕ, Bool, true, false, ◌||◌, List, [], ◌∷◌, map, refl, sym, ◌∙◌}
use Rattle.std.specs.Char.{to_ascii_lowercase}
use Rattle.std.specs.Cmp.Lexicographic.{pointwise}
use Rattle.std.specs.Prelude.{nat_eq}
use Rattle.dp_conf.specs.Words.{same_word}
use Rattle.dp_wide.specs.Names.{is_word_of}
use Rattle.dp_wide.specs.laws.NamesLawful.{lower_case_decides}

false_is_true : false ≡ true → ⊥
false_is_true e = cc

-- the comparisons of a word give the same for each of its spellings
pub of_spelling : {X : Type 0} (find : (List ℕ → Bool) → X) (name word : List ℕ) → same_word name word ≡ true
    → find (same_word name) ≡ find (same_word word)
of_spelling find name word same = sym (lower_case_decides (λ lower. find (λ title. pointwise nat_eq lower (map to_ascii_lowercase title))) name word same)

-- the same holds for each of some words
abbrev pub AreFound : {X : Type 0} → ((List ℕ → Bool) → X) → X → List (List ℕ) → Type 0
AreFound find found [] = Unit {0}
AreFound find found (word ∷ words) = (find (same_word word) ≡ found) × AreFound find found words

-- it holds for each name that is one of these words
pub of_words : {X : Type 0} (find : (List ℕ → Bool) → X) (found : X) (words : List (List ℕ)) → AreFound find found words
    → (name : List ℕ) → is_word_of words name ≡ true → find (same_word name) ≡ found
of_words find found [] are name among = absurd (false_is_true among)
of_words {X = X} find found (word ∷ words) are name among =
    by (same_word name word) refl (of_words find found words are.1 name) among
  where
    by : (b : Bool) → same_word name word ≡ b → (is_word_of words name ≡ true → find (same_word name) ≡ found)
        → (b || is_word_of words name) ≡ true → find (same_word name) ≡ found
    by true same rest e = of_spelling find name word same ∙ are.0
    by false same rest e = rest e
