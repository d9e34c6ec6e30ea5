-- The target of an expanded text lies where the text says.
use Rattle.std.proofs.Common.{◌≡◌, ◌⊎◌, inl, inr, ℕ, ◌≤◌, Bool, true, false, nat_le, List, [], ◌∷◌, ◌++◌, length, map, reverse, slice_get, Option, Some, None, refl, sym, ap, subst, if◌then◌else◌, arith}
use Rattle.std.proofs.lemmas.Bool.{leb-true}
use Rattle.std.specs.List.{AllByRecursion, onto_first}
use Rattle.std.specs.Option.{option_and_then, option_map}
use Rattle.dp_conf.specs.Blanks.{trim}
use Rattle.dp_conf.specs.Levels.{arguments_of, parts_arguments, parts_of, split_after}
use Rattle.dp_plan.specs.Plan.{PlanOf}
use Rattle.dp_machine.specs.Targets.{part_or, parts_context, parts_exten, parts_place, place_by, place_of, priority_of}
use Rattle.dp_app.specs.declared.place.Place.{Place}
use Rattle.dp_pieces.specs.Arguments.{are_clean, shapes_of}
use Rattle.dp_pieces.specs.Bytes.{Bytes, Within}
use Rattle.dp_pieces.specs.Fitting.{AllFit}
use Rattle.dp_pieces.specs.Pieces.{AnyOf, Fits, Known, OneOf, PieceOf, any_bytes_of, pieces_set}
use Rattle.dp_pieces.proofs.ArgumentLemmas.{fits-arguments}
use Rattle.dp_pieces.proofs.FitsLemmas.{fits-any_bytes_of, fits-set}
use Rattle.dp_pieces.proofs.WithinLemmas.{within-trim}
use Rattle.dp_reach.specs.Areas.{Area, Covers, IncludesAll, IsIn, IsInOne, IsUnknown, area_at, areas_of, may_be_empty, or_own, targets, targets_of, targets_within}

-- the text fits one of these
abbrev pub FitsOne : List (List PieceOf) → List ℕ → Type 0
FitsOne [] text = ⊥
FitsOne (pieces ∷ more) text = Fits pieces text ⊎ FitsOne more text

-- what the empty text fits may be empty
none-after : (front rest : List ℕ) → [] ≡ front ++ rest → rest ≡ []
none-after [] rest is = sym is
none-after (byte ∷ front) rest is = absurd cc

fits-empty : (pieces : List PieceOf) → Fits pieces [] → may_be_empty pieces ≡ true
unfolding Fits
fits-empty [] fits = refl
fits-empty (Known byte ∷ pieces) fits = absurd (let no : [] ≡ byte ∷ fits.0 = fits.1 in let b : ⊥ = cc in b)
fits-empty (OneOf set ∷ pieces) fits = absurd (let no : [] ≡ fits.0.0 ∷ fits.0.1 = fits.1 in let b : ⊥ = cc in b)
fits-empty (AnyOf set ∷ pieces) fits = fits-empty pieces (subst (Fits pieces) (none-after fits.0.0 fits.0.1 fits.1) fits.3)

-- a part of a target
fits-or_own : (own pieces : List PieceOf) (mine part : List ℕ) → Fits own mine → Fits pieces part → FitsOne (or_own own pieces) (part_or mine part)
unfolding Fits
fits-or_own own [] mine part is here = subst (λ p. FitsOne (own ∷ []) (part_or mine p)) (sym here) (inl is)
fits-or_own own (piece ∷ pieces) mine [] is here =
    subst (λ b. FitsOne (if b then (piece ∷ pieces) ∷ own ∷ [] else (piece ∷ pieces) ∷ []) mine) (sym (fits-empty (piece ∷ pieces) here)) (inr (inl is))
fits-or_own own (piece ∷ pieces) mine (byte ∷ bytes) is here = by (may_be_empty (piece ∷ pieces))
  where
    by : (b : Bool) → FitsOne (if b then (piece ∷ pieces) ∷ own ∷ [] else (piece ∷ pieces) ∷ []) (byte ∷ bytes)
    by true = inl here
    by false = inl here

-- a place that is in one of some areas is in one of more
pub in-front : (first more : List Area) (place : Place) → IsInOne first place → IsInOne (first ++ more) place
in-front [] more place is = absurd is
in-front (area ∷ first) more place (inl here) = inl here
in-front (area ∷ first) more place (inr there) = inr (in-front first more place there)

pub in-later : (first more : List Area) (place : Place) → IsInOne more place → IsInOne (first ++ more) place
in-later [] more place is = is
in-later (area ∷ first) more place is = inr (in-later first more place is)

in-extens : (context : List PieceOf) (extens : List (List PieceOf)) (place : Place) → Fits context place.context → FitsOne extens place.exten
    → IsInOne (map (area_at context) extens) place
in-extens context [] place is some = absurd some
in-extens context (exten ∷ extens) place is (inl here) = inl (record { context = is; exten = here })
in-extens context (exten ∷ extens) place is (inr there) = inr (in-extens context extens place is there)

in-areas : (contexts extens : List (List PieceOf)) (place : Place) → FitsOne contexts place.context → FitsOne extens place.exten → IsInOne (areas_of contexts extens) place
in-areas [] extens place some others = absurd some
in-areas (context ∷ contexts) extens place (inl here) others =
    in-front (map (area_at context) extens) (areas_of contexts extens) place (in-extens context extens place here others)
in-areas (context ∷ contexts) extens place (inr there) others =
    in-later (map (area_at context) extens) (areas_of contexts extens) place (in-areas contexts extens place there others)

-- a requested place has the requested context and extension
record IsAt (context exten : List ℕ) (place : Place) : Type 0 where
  same_context : place.context ≡ context
  same_exten : place.exten ≡ exten

at-place : (plan : PlanOf) (context exten priority : List ℕ) (place : Place) → place_by plan context exten priority ≡ Some place → IsAt context exten place
at-place plan context exten priority place = by (priority_of plan context exten priority)
  where
    by : (o : Option ℕ) → option_map (place_of context exten) o ≡ Some place → IsAt context exten place
    by None is = absurd cc
    by (Some n) is = let same : place_of context exten n ≡ place = cc in record { same_context = ap (λ p. p.context) (sym same); same_exten = ap (λ p. p.exten) (sym same) }

in-at : (contexts extens : List (List PieceOf)) (context exten : List ℕ) (place : Place) → IsAt context exten place → FitsOne contexts context → FitsOne extens exten
    → IsInOne (areas_of contexts extens) place
in-at contexts extens context exten place at some others =
    in-areas contexts extens place (subst (FitsOne contexts) (sym at.same_context) some) (subst (FitsOne extens) (sym at.same_exten) others)

-- where parts lead
pub in-target : (plan : PlanOf) (own place : Place) (area : Area) (shapes : List (List PieceOf)) (parts : List (List ℕ)) → IsIn area own → AllFit shapes parts
    → parts_place plan own parts ≡ Some place → IsInOne (targets_of area shapes) place
unfolding parts_place
in-target plan own place area [] [] inside are found = absurd cc
in-target plan own place area (p ∷ []) (a ∷ []) inside are found =
    let at = at-place plan own.context own.exten a place found in
    inl (record { context = subst (Fits area.context) (sym at.same_context) inside.context; exten = subst (Fits area.exten) (sym at.same_exten) inside.exten })
in-target plan own place area (e ∷ p ∷ []) (a ∷ b ∷ []) inside are found =
    in-at (area.context ∷ []) (or_own area.exten e) own.context (part_or own.exten a) place (at-place plan own.context (part_or own.exten a) b place found)
    (inl inside.context) (fits-or_own area.exten e own.exten a inside.exten are.0)
in-target plan own place area (c ∷ e ∷ p ∷ []) (a ∷ b ∷ d ∷ []) inside are found =
    in-at (or_own area.context c) (or_own area.exten e) (part_or own.context a) (part_or own.exten b) place
    (at-place plan (part_or own.context a) (part_or own.exten b) d place found)
    (fits-or_own area.context c own.context a inside.context are.0) (fits-or_own area.exten e own.exten b inside.exten are.1.0)
in-target plan own place area (c ∷ e ∷ p ∷ q ∷ shapes) (a ∷ b ∷ d ∷ f ∷ parts) inside are found =
    absurd (by (nat_le (length (a ∷ b ∷ d ∷ f ∷ parts)) 3) refl found)
  where
    by : (few : Bool) → nat_le (length (a ∷ b ∷ d ∷ f ∷ parts)) 3 ≡ few
        → (if few then option_and_then (place_by plan (parts_context own (a ∷ b ∷ d ∷ f ∷ parts)) (parts_exten own (a ∷ b ∷ d ∷ f ∷ parts))) (slice_get (reverse (a ∷ b ∷ d ∷ f ∷ parts)) 0) else None) ≡ Some place
        → ⊥
    by true few is = let short : length (a ∷ b ∷ d ∷ f ∷ parts) ≤ 3 = leb-true _ _ few in omega arith
    by false few is = (cc)
in-target plan own place area [] (a ∷ parts) inside are found = absurd are
in-target plan own place area (p ∷ shapes) [] inside are found = absurd are
in-target plan own place area (p ∷ []) (a ∷ b ∷ parts) inside are found = absurd are.1
in-target plan own place area (e ∷ p ∷ shapes) (a ∷ []) inside are found = absurd are.1
in-target plan own place area (e ∷ p ∷ []) (a ∷ b ∷ d ∷ parts) inside are found = absurd are.1.1
in-target plan own place area (c ∷ e ∷ p ∷ shapes) (a ∷ b ∷ []) inside are found = absurd are.1.1
in-target plan own place area (c ∷ e ∷ p ∷ []) (a ∷ b ∷ d ∷ f ∷ parts) inside are found = absurd are.1.1.1
in-target plan own place area (c ∷ e ∷ p ∷ q ∷ shapes) (a ∷ b ∷ d ∷ []) inside are found = absurd are.1.1.1

-- any part of these bytes, or the channel's own
fits-made_or_own : (set : Bytes) (own : List PieceOf) (mine part : List ℕ) → Fits own mine → Within set part → FitsOne (any_bytes_of set ∷ own ∷ []) (part_or mine part)
fits-made_or_own set own mine [] is here = inr (inl is)
fits-made_or_own set own mine (b ∷ bs) is here = inl (fits-any_bytes_of set (b ∷ bs) here)

pub in-within : (plan : PlanOf) (own place : Place) (area : Area) (set : Bytes) (parts : List (List ℕ)) → IsIn area own → AllByRecursion (Within set) parts
    → parts_place plan own parts ≡ Some place → IsInOne (targets_within area set) place
unfolding parts_place
in-within plan own place area set [] inside all found = absurd cc
in-within plan own place area set (a ∷ []) inside all found =
    in-at (any_bytes_of set ∷ area.context ∷ []) (any_bytes_of set ∷ area.exten ∷ []) own.context own.exten place (at-place plan own.context own.exten a place found)
    (inr (inl inside.context)) (inr (inl inside.exten))
in-within plan own place area set (a ∷ b ∷ []) inside all found =
    in-at (any_bytes_of set ∷ area.context ∷ []) (any_bytes_of set ∷ area.exten ∷ []) own.context (part_or own.exten a) place
    (at-place plan own.context (part_or own.exten a) b place found)
    (inr (inl inside.context)) (fits-made_or_own set area.exten own.exten a inside.exten all.0)
in-within plan own place area set (a ∷ b ∷ d ∷ []) inside all found =
    in-at (any_bytes_of set ∷ area.context ∷ []) (any_bytes_of set ∷ area.exten ∷ []) (part_or own.context a) (part_or own.exten b) place
    (at-place plan (part_or own.context a) (part_or own.exten b) d place found)
    (fits-made_or_own set area.context own.context a inside.context all.0) (fits-made_or_own set area.exten own.exten b inside.exten all.1.0)
in-within plan own place area set (a ∷ b ∷ d ∷ f ∷ parts) inside all found =
    absurd (by (nat_le (length (a ∷ b ∷ d ∷ f ∷ parts)) 3) refl found)
  where
    by : (few : Bool) → nat_le (length (a ∷ b ∷ d ∷ f ∷ parts)) 3 ≡ few
        → (if few then option_and_then (place_by plan (parts_context own (a ∷ b ∷ d ∷ f ∷ parts)) (parts_exten own (a ∷ b ∷ d ∷ f ∷ parts))) (slice_get (reverse (a ∷ b ∷ d ∷ f ∷ parts)) 0) else None) ≡ Some place
        → ⊥
    by true few is = let short : length (a ∷ b ∷ d ∷ f ∷ parts) ≤ 3 = leb-true _ _ few in omega arith
    by false few is = (cc)

-- the parts of a text have its bytes
onto-within : (set : Bytes) (byte : ℕ) (parts : List (List ℕ)) → set byte ≡ true → AllByRecursion (Within set) parts → AllByRecursion (Within set) (onto_first byte parts)
onto-within set byte [] here all = ((here, tt), tt)
onto-within set byte (part ∷ parts) here all = ((here, all.0), all.1)

pub split-within : (set : Bytes) (text before : List ℕ) → Within set text → AllByRecursion (Within set) (split_after parts_arguments before text)
split-within set [] before is = (tt, tt)
split-within set (byte ∷ text) before is = by (parts_arguments before byte) (split-within set text (before ++ byte ∷ []) is.1)
  where
    next : List (List ℕ)
    next = split_after parts_arguments (before ++ byte ∷ []) text

    by : (cut : Bool) → AllByRecursion (Within set) next → AllByRecursion (Within set) (if cut then [] ∷ next else onto_first byte next)
    by true all = (tt, all)
    by false all = onto-within set byte next is.0 all

trimmed-within : (set : Bytes) (parts : List (List ℕ)) → AllByRecursion (Within set) parts → AllByRecursion (Within set) (map trim parts)
trimmed-within set [] all = tt
trimmed-within set (part ∷ parts) all = (within-trim set part all.0, trimmed-within set parts all.1)

pub arguments-within : (set : Bytes) (text : List ℕ) → Within set text → AllByRecursion (Within set) (arguments_of text)
unfolding parts_of
arguments-within set text is = trimmed-within set (split_after parts_arguments [] text) (split-within set text [] is)

-- where the target of a text leads
pub in-targets : (plan : PlanOf) (area : Area) (own place : Place) (pieces : List PieceOf) (text : List ℕ) → IsIn area own → Fits pieces text
    → parts_place plan own (arguments_of text) ≡ Some place → IsInOne (targets area pieces) place
in-targets plan area own place pieces text inside fits found = by (are_clean 0 pieces) refl
  where
    by : (clean : Bool) → are_clean 0 pieces ≡ clean → IsInOne (if clean then targets_of area (shapes_of pieces) else targets_within area (pieces_set pieces)) place
    by true is = in-target plan own place area (shapes_of pieces) (arguments_of text) inside (fits-arguments pieces text is fits) found
    by false is = in-within plan own place area (pieces_set pieces) (arguments_of text) inside (arguments-within (pieces_set pieces) text (fits-set pieces text fits)) found

-- the reach covers a place of what it includes
pub covers-included : (plan : PlanOf) (reach areas : List Area) (place : Place) → IncludesAll plan reach areas → IsInOne areas place → Covers plan reach place
covers-included plan reach [] place all is = absurd is
covers-included plan reach (area ∷ areas) place all (inl here) = all.0 place here
covers-included plan reach (area ∷ areas) place all (inr there) = covers-included plan reach areas place all.1 there

-- and one of the same context and extension
in-same : (areas : List Area) (p q : Place) → p.context ≡ q.context → p.exten ≡ q.exten → IsInOne areas p → IsInOne areas q
in-same [] p q context exten is = is
in-same (area ∷ areas) p q context exten (inl here) =
    inl (record { context = subst (Fits area.context) context here.context; exten = subst (Fits area.exten) exten here.exten })
in-same (area ∷ areas) p q context exten (inr there) = inr (in-same areas p q context exten there)

pub covers-same : (plan : PlanOf) (reach : List Area) (p q : Place) → p.context ≡ q.context → p.exten ≡ q.exten → Covers plan reach p → Covers plan reach q
covers-same plan reach p q context exten (inl unknown) = inl (subst (IsUnknown plan) context unknown)
covers-same plan reach p q context exten (inr is) = inr (in-same reach p q context exten is)
