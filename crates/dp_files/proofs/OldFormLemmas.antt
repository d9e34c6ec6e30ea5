-- Applications of the old form, read byte by byte.
use Rattle.std.proofs.Common.{◌≡◌, ℕ, Bool, true, false, ◌||◌, eqb, cond, List, [], ◌∷◌, length, Option, Some, None, refl, ap, ◌∙◌, arith}
use Rattle.std.proofs.lemmas.Bool.Decides.{nat_tests}
use Rattle.std.specs.List.{list_any}
use Rattle.dp_conf.specs.Cut.{cut_once}
use Rattle.dp_conf.proofs.TextLemmas.{cut_once-here, cut_once-is, cut_once-none, cut_once-nowhere}
use Rattle.dp_files.specs.ContextWords.{front_of, is_old_form}

-- the text before the first `(`, after a byte that is none
front_more : (b : ℕ) (bs : List ℕ) → eqb b 40 ≡ false → front_of (b ∷ bs) (cut_once 40 (b ∷ bs)) ≡ b ∷ front_of bs (cut_once 40 bs)
front_more b bs other = by (cut_once 40 bs) refl
  where
    by : (cut : Option (List ℕ × List ℕ)) → cut_once 40 bs ≡ cut → front_of (b ∷ bs) (cut_once 40 (b ∷ bs)) ≡ b ∷ front_of bs cut
    by None is = ap (front_of (b ∷ bs)) (cut_once-nowhere 40 (b ∷ bs) (other, cut_once-none 40 bs is))
    by (Some (front, rest)) is =
        let cut = cut_once-is 40 bs front rest is in
        ap (front_of (b ∷ bs)) (ap (λ (text : List ℕ). cut_once 40 (b ∷ text)) cut.whole ∙ cut_once-here 40 (b ∷ front) rest (other, cut.avoids))

-- without bytes there is no comma
pub old_form_empty : (text : List ℕ) → length text ≡ 0 → is_old_form text ≡ false
unfolding is_old_form
old_form_empty [] none = refl
old_form_empty (b ∷ bs) none = absurd cc

-- the first byte decides, unless it is another one
pub old_form_first : (b : ℕ) (bs : List ℕ) → is_old_form (b ∷ bs) ≡ cond (eqb b 40) false (eqb b 44 || is_old_form bs)
unfolding is_old_form
old_form_first b bs = by (eqb b 40) refl
  where
    by : (t : Bool) → eqb b 40 ≡ t → list_any (λ b. eqb b 44) (front_of (b ∷ bs) (cut_once 40 (b ∷ bs)))
        ≡ cond t false (eqb b 44 || list_any (λ b. eqb b 44) (front_of bs (cut_once 40 bs)))
    by true is =
        let same : b ≡ 40 = grind (arith, nat_tests) in
        ap (λ (first : ℕ). list_any (λ b. eqb b 44) (front_of (first ∷ bs) (cut_once 40 (first ∷ bs)))) same
        ∙ ap (λ cut. list_any (λ b. eqb b 44) (front_of (40 ∷ bs) cut)) (cut_once-here 40 [] bs tt)
    by false is = ap (list_any (λ b. eqb b 44)) (front_more b bs is)
