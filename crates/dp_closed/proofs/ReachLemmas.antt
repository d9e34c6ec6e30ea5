-- Places of a reach that is kept by the numbers of contexts.
use Rattle.std.proofs.Common.{◌≡◌, inl, inr, ℕ, zero, suc, ◌<◌, true, List, [], ◌∷◌, ◌++◌, length, map, Option, Some, None, slice_get, refl, sym, ap, ◌∙◌, subst, arith}
use Rattle.std.proofs.lemmas.List.{length-map}
use Rattle.std.proofs.lemmas.List.Quantifiers.{position-Some}
use Rattle.std.proofs.lemmas.Option.{get_or_from_slice_get, slice_get-map}
use Rattle.std.specs.Prelude.{position, slice_index_or}
use Rattle.std.specs.Cmp.Lexicographic.{bytes_decides}
use Rattle.std.specs.Global.{Vec}
use Rattle.std.specs.Option.{option_map}
use Rattle.dp_conf.specs.Words.{same_text}
use Rattle.dp_app.specs.declared.place.Place.{Place}
use Rattle.dp_pieces.specs.Pieces.{Fits, exactly, text_known}
use Rattle.dp_pieces.specs.Shown.{shown_all}
use Rattle.dp_pieces.specs.declared.piece.Piece.{Piece}
use Rattle.dp_pieces.proofs.FitsLemmas.{fits-exactly, fits-text_known}
use Rattle.dp_plan.specs.Contexts.{PlanContext}
use Rattle.dp_plan.specs.Lookup.{number_of}
use Rattle.dp_plan.specs.Plan.{PlanOf}
use Rattle.dp_reach.specs.Areas.{Area, Covers, Includes, IsInOne, area_at}
use Rattle.dp_closed.specs.Reach.{FitsAny, areas_in, shapes_at}

-- a text of one of the shapes
pub fits-at : (shapes : List (Vec Piece)) (k : ℕ) (shape : Vec Piece) (text : List ℕ) → k < length shapes → shape ≡ slice_index_or shapes k shape
    → Fits (shown_all shape.items) text → FitsAny shapes text
fits-at [] k shape text below is fits = absurd (omega (arith, below))
fits-at (first ∷ shapes) zero shape text below is fits = inl (subst (λ (s : Vec Piece). Fits (shown_all s.items) text) is fits)
fits-at (first ∷ shapes) (suc k) shape text below is fits = inr (fits-at shapes k shape text (omega (arith, below)) is fits)

-- a place of a context, and of those after it
in-own : (own : PlanContext) (shapes : List (Vec Piece)) (more : List Area) (place : Place) → place.context ≡ own.name → FitsAny shapes place.exten
    → IsInOne (map (λ shape. area_at (exactly own.name) (shown_all shape.items)) shapes ++ more) place
in-own own [] more place is fits = absurd fits
in-own own (shape ∷ shapes) more place is (inl here) =
    inl (record { context = subst (λ t. Fits (exactly own.name) t) (sym is) (fits-exactly own.name); exten = here })
in-own own (shape ∷ shapes) more place is (inr there) = inr (in-own own shapes more place is there)

in-later : (first more : List Area) (place : Place) → IsInOne more place → IsInOne (first ++ more) place
in-later [] more place inside = inside
in-later (area ∷ first) more place inside = inr (in-later first more place inside)

in-one : (contexts : List PlanContext) (shapes : List (Vec (Vec Piece))) (n : ℕ) (own : PlanContext) (place : Place) → slice_get contexts n ≡ Some own → place.context ≡ own.name
    → FitsAny (shapes_at shapes n) place.exten → IsInOne (areas_in contexts shapes) place
in-one [] shapes n own place at is fits = absurd cc
in-one (context ∷ contexts) [] n own place at is fits = absurd (by n fits)
  where
    by : (n : ℕ) → FitsAny (shapes_at [] n) place.exten → ⊥
    by n none = none
in-one (context ∷ contexts) (first ∷ shapes) zero own place at is fits =
    in-own context first.items (areas_in contexts shapes) place (is ∙ (let same : own.name ≡ context.name = cc in same)) fits
in-one (context ∷ contexts) (first ∷ shapes) (suc n) own place at is fits =
    in-later (map (λ shape. area_at (exactly context.name) (shown_all shape.items)) first.items) (areas_in contexts shapes) place
    (in-one contexts shapes n own place at is fits)

-- the context of a number
record IsAt (contexts : List PlanContext) (name : List ℕ) (n : ℕ) : Type 0 where
  own : PlanContext
  there : slice_get contexts n ≡ Some own
  same : name ≡ own.name

there-is : (contexts : List PlanContext) (n : ℕ) → n < length contexts → (own : PlanContext) × (slice_get contexts n ≡ Some own)
there-is [] n below = absurd (omega (arith, below))
there-is (context ∷ contexts) zero below = (context, refl)
there-is (context ∷ contexts) (suc n) below = there-is contexts n (omega (arith, below))

number-at : (contexts : List PlanContext) (name : List ℕ) (n : ℕ) → position (same_text name) (map (λ (context : PlanContext). context.name) contexts) ≡ Some n → IsAt contexts name n
number-at contexts name n is =
    let found = position-Some (same_text name) (map (λ (context : PlanContext). context.name) contexts) n [] is in
    let at = there-is contexts n (omega (arith, found.0, length-map contexts (λ (context : PlanContext). context.name))) in
    let named : slice_get (map (λ (context : PlanContext). context.name) contexts) n ≡ Some at.0.name =
    slice_get-map (λ (context : PlanContext). context.name) contexts n ∙ ap (option_map (λ (context : PlanContext). context.name)) at.1 in
    record {
      own = at.0;
      there = at.1;
      same = (bytes_decides name at.0.name).0 (subst (λ (k : List ℕ). same_text name k ≡ true)
          (get_or_from_slice_get (map (λ (context : PlanContext). context.name) contexts) n at.0.name [] named) found.1);
    }

-- each place of the shapes is in the reach, if each context that may be meant has the extensions
pub includes-all : (plan : PlanOf) (shapes : List (Vec (Vec Piece))) (context exten : List Piece)
    → ((k : ℕ) (own : PlanContext) → slice_get plan.contexts k ≡ Some own → Fits (shown_all context) own.name
    → (text : List ℕ) → Fits (shown_all exten) text → FitsAny (shapes_at shapes k) text)
    → Includes plan (areas_in plan.contexts shapes) (area_at (shown_all context) (shown_all exten))
includes-all plan shapes context exten all place inside = by (number_of plan place.context) refl
  where
    by : (o : Option ℕ) → number_of plan place.context ≡ o → Covers plan (areas_in plan.contexts shapes) place
    by None none = inl none
    by (Some n) some =
        let at = number-at plan.contexts place.context n some in
        inr (in-one plan.contexts shapes n at.own place at.there at.same
        (all n at.own at.there (subst (Fits (shown_all context)) at.same inside.context) place.exten inside.exten))

-- and if the context is known and has them
pub includes-text_known : (plan : PlanOf) (shapes : List (Vec (Vec Piece))) (context exten : List Piece) (name : List ℕ) → text_known (shown_all context) ≡ Some name
    → ((n : ℕ) → number_of plan name ≡ Some n → (text : List ℕ) → Fits (shown_all exten) text → FitsAny (shapes_at shapes n) text)
    → Includes plan (areas_in plan.contexts shapes) (area_at (shown_all context) (shown_all exten))
includes-text_known plan shapes context exten name is has place inside = by (number_of plan place.context) refl
  where
    same : place.context ≡ name
    same = fits-text_known (shown_all context) place.context name is inside.context

    by : (o : Option ℕ) → number_of plan place.context ≡ o → Covers plan (areas_in plan.contexts shapes) place
    by None none = inl none
    by (Some n) some =
        let at = number-at plan.contexts place.context n some in
        inr (in-one plan.contexts shapes n at.own place at.there at.same
        (has n (ap (number_of plan) (sym same) ∙ some) place.exten inside.exten))
