-- What takes a text piece by piece takes it as a whole.
use Rattle.std.proofs.Common.{◌≡◌, ℕ, ◌+◌, ◌<◌, ◌≤◌, List, [], ◌∷◌, ◌++◌, Some, None, length, take, drop, map, get_or, refl, ap, ◌∙◌, sym, subst, append_assoc}
use Rattle.std.specs.List.{flat_map}
use Rattle.std.proofs.lemmas.Grind.{flat_map-append}
use Rattle.std.proofs.lemmas.List.{take_all, take_more, take-append-drop, map-append, append-nil}
use Rattle.dp_conf.specs.Cut.{cut_once}
use Rattle.dp_conf.specs.Escape.{escape_text}
use Rattle.dp_plan.specs.Contexts.{PlanContext}
use Rattle.dp_lister.specs.Listing.{line_text, text_of, context_lines, contexts_text}
use Rattle.dp_lister.specs.Sinks.{SinkLaws}
use Rattle.dp_lister.proofs.EscapeParts.{escape_text-cut, escape_text-uncut}
use Rattle.dp_lister.proofs.ListingLemmas.{text_of-more}

-- some bytes were taken, which with those that are left are the whole
pub record TakesFirst {S : Type 0} (takes : S → S → List ℕ → Type 0) (start here : S) (left whole : List ℕ) : Type 0 where
  pub first : List ℕ
  pub taken : takes start here first
  pub is : first ++ left ≡ whole

module _ {S : Type 0} {takes : S → S → List ℕ → Type 0} (laws : SinkLaws takes) where
  -- the same bytes
  pub same : (s t : S) (xs ys : List ℕ) → xs ≡ ys → takes s t xs → takes s t ys
  same s t xs ys e taken = subst (takes s t) e taken

  -- two pieces
  pub two : (r s t : S) (a b whole : List ℕ) → a ++ b ≡ whole → takes r s a → takes s t b → takes r t whole
  two r s t a b whole e p q = same r t (a ++ b) whole e (laws.both r s t a b p q)

  -- three pieces
  pub three : (r s t u : S) (a b c whole : List ℕ) → a ++ (b ++ c) ≡ whole → takes r s a → takes s t b → takes t u c → takes r u whole
  three r s t u a b c whole e p q more = two r s u a (b ++ c) whole e p (laws.both s t u b c q more)

  -- four pieces
  pub four : (r s t u v : S) (a b c d whole : List ℕ) → a ++ (b ++ (c ++ d)) ≡ whole → takes r s a → takes s t b → takes t u c → takes u v d → takes r v whole
  four r s t u v a b c d whole e p q more last = two r s v a (b ++ (c ++ d)) whole e p (three s t u v b c d (b ++ (c ++ d)) refl q more last)

  -- nothing so far
  pub TakesFirst-none : (s : S) (whole : List ℕ) → TakesFirst takes s s whole whole
  TakesFirst-none s whole = record { first = []; taken = laws.nothing s; is = refl }

  -- one piece more
  TakesFirst-more : (r s t : S) (left piece rest whole : List ℕ) → TakesFirst takes r s left whole → takes s t piece → piece ++ rest ≡ left → TakesFirst takes r t rest whole
  TakesFirst-more r s t left piece rest whole before taken e = record {
    first = before.first ++ piece;
    taken = laws.both r s t before.first piece before.taken taken;
    is = append_assoc before.first piece rest ∙ (ap (λ (xs : List ℕ). before.first ++ xs) e ∙ before.is);
  }

  -- one more part before a `;`, and the `;`
  pub escaped-more : (r s t : S) (left part rest whole : List ℕ) → TakesFirst takes r s (escape_text left) whole → takes s t (part ++ 92 ∷ 59 ∷ []) → cut_once 59 left ≡ Some (part, rest) → TakesFirst takes r t (escape_text rest) whole
  escaped-more r s t left part rest whole before taken cut =
      TakesFirst-more r s t (escape_text left) (part ++ 92 ∷ 59 ∷ []) (escape_text rest) whole before taken (escape_text-cut left part rest cut)

  -- the last part
  pub escaped-last : (r s t : S) (left whole : List ℕ) → TakesFirst takes r s (escape_text left) whole → takes s t left → cut_once 59 left ≡ None → takes r t whole
  escaped-last r s t left whole before taken cut =
      subst (takes r t) (ap (λ (xs : List ℕ). before.first ++ xs) (escape_text-uncut left cut) ∙ before.is) (laws.both r s t before.first left before.taken taken)

  -- the line of one more thing after those of the first few
  pub lines-more : {X : Type 0} (f : X → List ℕ) (xs : List X) (i : ℕ) (x : X) (r s t : S) → i < length xs → x ≡ get_or xs i x → takes r s (text_of (map f (take i xs))) → takes s t (line_text (f x)) → takes r t (text_of (map f (take (i + 1) xs)))
  lines-more f xs i x r s t within here before taken =
      let so_far = text_of (map f (take i xs)) in
      subst (takes r t) (text_of-more f xs i x [] so_far (so_far ++ line_text (f x)) within here refl refl) (laws.both r s t so_far (line_text (f x)) before taken)

  -- the lines of the first few things, and then a sink that drops the others
  pub lines-drop : {X : Type 0} (f : X → List ℕ) (xs : List X) (i : ℕ) (r s : S) → takes r s (text_of (map f (take i xs))) → ((bytes : List ℕ) → takes s s bytes) → takes r s (text_of (map f xs))
  lines-drop {X} f xs i r s before drops =
      let first = map f (take i xs) in
      let rest = map f (drop i xs) in
      let whole : text_of first ++ text_of rest ≡ text_of (map f xs) =
      sym (flat_map-append line_text first rest) ∙ ap text_of (sym (map-append f (take i xs) (drop i xs))) ∙ ap (λ (ys : List X). text_of (map f ys)) (take-append-drop i xs) in
      two r s s (text_of first) (text_of rest) (text_of (map f xs)) whole before (drops (text_of rest))

  -- the lines of all things
  pub lines-all : {X : Type 0} (f : X → List ℕ) (xs : List X) (i : ℕ) (r s : S) → length xs ≤ i → takes r s (text_of (map f (take i xs))) → takes r s (text_of (map f xs))
  lines-all {X} f xs i r s past before = subst (λ (ys : List X). takes r s (text_of (map f ys))) (take_all i xs past) before

  -- the lines of one more context
  pub contexts-more : (xs : List PlanContext) (i : ℕ) (x : PlanContext) (r s t : S) → i < length xs → x ≡ get_or xs i x → takes r s (contexts_text (take i xs)) → takes s t (text_of (context_lines x)) → takes r t (contexts_text (take (i + 1) xs))
  contexts-more xs i x r s t within here before taken =
      let first : take (i + 1) xs ≡ take i xs ++ x ∷ [] = take_more xs i x within ∙ ap (λ (y : PlanContext). take i xs ++ y ∷ []) (sym here) in
      let lines : contexts_text (take (i + 1) xs) ≡ contexts_text (take i xs) ++ text_of (context_lines x) =
      ap contexts_text first
      ∙ (ap text_of (flat_map-append context_lines (take i xs) (x ∷ []) ∙ ap (λ (ys : List (List ℕ)). flat_map context_lines (take i xs) ++ ys) (append-nil (context_lines x)))
      ∙ flat_map-append line_text (flat_map context_lines (take i xs)) (context_lines x)) in
      subst (takes r t) (sym lines) (laws.both r s t (contexts_text (take i xs)) (text_of (context_lines x)) before taken)

  -- the lines of all contexts
  pub contexts-all : (xs : List PlanContext) (i : ℕ) (r s : S) → length xs ≤ i → takes r s (contexts_text (take i xs)) → takes r s (contexts_text xs)
  contexts-all xs i r s past before = subst (λ (ys : List PlanContext). takes r s (contexts_text ys)) (take_all i xs past) before
