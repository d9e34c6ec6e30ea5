-- Texts that are added for one number after another.
use Rattle.std.proofs.Common.{◌≡◌, ℕ, ◌+◌, List, [], ◌∷◌, ◌++◌, map, ap, sym, ◌∙◌, zero-add}
use Rattle.std.specs.List.{flat_map, range_with_len}
use Rattle.std.proofs.lemmas.Grind.{flat_map-append}
use Rattle.std.proofs.lemmas.List.{append_assoc, append-nil}
use Rattle.std.proofs.lemmas.List.Concat.{flat_map-cons}
use Rattle.std.proofs.lemmas.List.FromFn.{map-range_with_len_more}
use Rattle.dp_audit.proofs.FindingsLemmas.{contexts_more}

module _ {Y : Type 0} (g : Y → List ℕ) (n : ℕ) (old cur new : List ℕ) where
  -- the texts of more elements
  added : (before more : List Y) → cur ≡ old ++ flat_map g before → new ≡ cur ++ flat_map g more → new ≡ old ++ flat_map g (before ++ more)
  added before more so_far one =
      one ∙ (ap (λ (t : List ℕ). t ++ flat_map g more) so_far
      ∙ (append_assoc old (flat_map g before) (flat_map g more)
      ∙ ap (λ (t : List ℕ). old ++ t) (sym (flat_map-append g before more))))

  -- the texts of the elements of one more number
  pub more_lists : (f : ℕ → List Y) → cur ≡ old ++ flat_map g (flat_map f (range_with_len 0 n)) → new ≡ cur ++ flat_map g (f n)
      → new ≡ old ++ flat_map g (flat_map f (range_with_len 0 (n + 1)))
  more_lists f so_far one =
      added (flat_map f (range_with_len 0 n)) (f n) so_far one
      ∙ ap (λ (ys : List Y). old ++ flat_map g ys) (contexts_more f n)

  -- the text of the element of one more number
  pub more_items : (h : ℕ → Y) → cur ≡ old ++ flat_map g (map h (range_with_len 0 n)) → new ≡ cur ++ g (h n)
      → new ≡ old ++ flat_map g (map h (range_with_len 0 (n + 1)))
  more_items h so_far one =
      added (map h (range_with_len 0 n)) (h n ∷ []) so_far (one ∙ ap (λ (t : List ℕ). cur ++ t) (sym (append-nil (g (h n)))))
      ∙ ap (λ (ys : List Y). old ++ flat_map g ys) (sym (map-range_with_len_more h 0 n n (zero-add n)))

-- the texts of the elements of a first part, before those of the rest
pub rest_more : {X Y : Type 0} (g : Y → List ℕ) (f : X → List Y) (whole cur new : List ℕ) (all rest : List X) (first : X) → all ≡ first ∷ rest
    → new ≡ cur ++ flat_map g (f first) → cur ++ flat_map g (flat_map f all) ≡ whole → new ++ flat_map g (flat_map f rest) ≡ whole
rest_more g f whole cur new all rest first split one so_far =
    ap (λ (t : List ℕ). t ++ flat_map g (flat_map f rest)) one
    ∙ (append_assoc cur (flat_map g (f first)) (flat_map g (flat_map f rest))
    ∙ (ap (λ (t : List ℕ). cur ++ t) (sym (flat_map-append g (f first) (flat_map f rest)))
    ∙ (ap (λ ys. cur ++ flat_map g ys) (sym (flat_map-cons f first rest))
    ∙ (ap (λ xs. cur ++ flat_map g (flat_map f xs)) (sym split) ∙ so_far))))
