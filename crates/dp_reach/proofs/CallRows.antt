-- The rows that enter subroutines stay inside if what they owe is met.
use Rattle.std.proofs.Common.{◌≡◌, inl, inr, ℕ, suc, ◌+◌, ◌-◌, ◌≤◌, Bool, true, false, List, [], ◌∷◌, ◌++◌, map, length, take, reverse, ◌==◌, codes, slice_get, Option, Some, None, nat_le, refl, sym, ap, ◌∙◌, subst, if◌then◌else◌, arith}
use Rattle.std.proofs.lemmas.Bool.{leb-true}
use Rattle.std.proofs.lemmas.List.{length-append, length-take}
use Rattle.std.specs.Fmt.{decimal}
use Rattle.std.specs.List.{AllByRecursion, flat_map}
use Rattle.std.specs.Option.{option_and_then, option_map, option_map_or}
use Rattle.dp_conf.proofs.TextLemmas.{cut_once-is, each-append, each-cut_front, each-cut_rest, each-front, each-rest, each-take}
use Rattle.dp_conf.specs.Blanks.{trim, trim_end, trim_start}
use Rattle.dp_conf.specs.Cut.{before_last, cut_once}
use Rattle.dp_conf.specs.Levels.{arguments_of, parts_arguments, parts_of, split_after}
use Rattle.dp_plan.specs.Plan.{PlanOf}
use Rattle.dp_app.specs.Cells.{CellOf}
use Rattle.dp_app.specs.declared.place.Place.{Place}
use Rattle.dp_machine.specs.Found.{is_found}
use Rattle.dp_machine.specs.Targets.{if_found, parts_context, parts_exten, parts_place, place_by}
use Rattle.dp_flow.specs.Conditions.{chosen_side}
use Rattle.dp_flow.specs.Jumps.{SubroutineCallOf, called_by, enter_subroutine, gosub_if, gosub_if_row, gosub_row, inner_arguments, argument_locals, place_after}
use Rattle.dp_pieces.specs.Arguments.{are_clean, shapes_of, split_pieces}
use Rattle.dp_pieces.specs.Bytes.{Bytes, Within}
use Rattle.dp_pieces.specs.Cuts.{At, CuttingOf, Nowhere, Unsure, cut_last, cut_pieces}
use Rattle.dp_pieces.specs.Fitting.{AllFit, IsCutAs, IsLast}
use Rattle.dp_pieces.specs.Pieces.{Fits, PieceOf, exactly, pieces_set}
use Rattle.dp_pieces.proofs.ArgumentLemmas.{SomeFit, fits-arguments, split-fits}
use Rattle.dp_pieces.proofs.CutLemmas.{cut-pieces}
use Rattle.dp_pieces.proofs.FitsLemmas.{fits-exactly, fits-any_bytes_of, fits-set}
use Rattle.dp_pieces.proofs.LastLemmas.{last-fits}
use Rattle.dp_pieces.proofs.WithinLemmas.{within-more, within-trim}
use Rattle.dp_reach.specs.Areas.{Area, Covers, IsIn, IsInOne, targets, targets_of, targets_within}
use Rattle.dp_reach.specs.Bounds.{HoldsAll, IsBounded, Leads, Meets, MeetsAll, call_duties, gosub_duties, gosub_if_duties, inside_duties, numbered_duties, sides_or, subroutine_duties, target_duties}
use Rattle.dp_reach.specs.Choices.{last_part, sides_in}
use Rattle.dp_reach.specs.Holding.{Claim, IsGood, IsInside}
use Rattle.dp_reach.proofs.CallPieces.{cut-trimmed, last-trimmed, none-trimmed}
use Rattle.dp_reach.proofs.ChoiceRows.{chosen_side-fits, chosen_side-within}
use Rattle.dp_reach.proofs.GotoRow.{includes-all}
use Rattle.dp_reach.proofs.StoreLemmas.{AreLocals, each-get, kept-with_frame}
use Rattle.dp_reach.proofs.TargetLemmas.{FitsOne, arguments-within, covers-included, covers-same, in-target, in-within}

-- parts with a different last part
abbrev with_last : List (List ℕ) → List ℕ → List (List ℕ)
with_last parts last = take (length parts - 1) parts ++ last ∷ []

few-parts : (plan : PlanOf) (own place : Place) (parts : List (List ℕ)) (last : List ℕ) → parts_place plan own (with_last parts last) ≡ Some place → length parts ≤ 3
unfolding parts_place
few-parts plan own place parts last found = by (nat_le (length (with_last parts last)) 3) refl found
  where
    by : (few : Bool) → nat_le (length (with_last parts last)) 3 ≡ few
        → (if few then option_and_then (place_by plan (parts_context own (with_last parts last)) (parts_exten own (with_last parts last))) (slice_get (reverse (with_last parts last)) 0) else None) ≡ Some place
        → length parts ≤ 3
    by true few is =
        let short : length (with_last parts last) ≤ 3 = leb-true _ _ few in
        omega (arith, short, length-append (take (length parts - 1) parts) (last ∷ []), length-take (length parts - 1) parts)
    by false few is = absurd cc

in-last : (plan : PlanOf) (own place : Place) (area : Area) (shapes : List (List PieceOf)) (parts : List (List ℕ)) (last : List ℕ) → IsIn area own → AllFit shapes parts
    → 1 ≤ length parts → parts_place plan own (with_last parts last) ≡ Some place → IsInOne (targets_of area shapes) place
in-last plan own place area (p ∷ []) (a ∷ []) last inside are some found =
    in-target plan own place area (exactly last ∷ []) (last ∷ []) inside (fits-exactly last, tt) found
in-last plan own place area (e ∷ p ∷ []) (a ∷ b ∷ []) last inside are some found =
    in-target plan own place area (e ∷ exactly last ∷ []) (a ∷ last ∷ []) inside (are.0, (fits-exactly last, tt)) found
in-last plan own place area (c ∷ e ∷ p ∷ []) (a ∷ b ∷ d ∷ []) last inside are some found =
    in-target plan own place area (c ∷ e ∷ exactly last ∷ []) (a ∷ b ∷ last ∷ []) inside (are.0, (are.1.0, (fits-exactly last, tt))) found
in-last plan own place area (c ∷ e ∷ p ∷ q ∷ shapes) (a ∷ b ∷ d ∷ f ∷ parts) last inside are some found =
    let few = few-parts plan own place (a ∷ b ∷ d ∷ f ∷ parts) last found in absurd (omega (arith, few))
in-last plan own place area [] [] last inside are some found = absurd (omega (arith, some))
in-last plan own place area [] (a ∷ parts) last inside are some found = absurd are
in-last plan own place area (p ∷ shapes) [] last inside are some found = absurd are
in-last plan own place area (p ∷ []) (a ∷ b ∷ parts) last inside are some found = absurd are.1
in-last plan own place area (e ∷ p ∷ shapes) (a ∷ []) last inside are some found = absurd are.1
in-last plan own place area (e ∷ p ∷ []) (a ∷ b ∷ d ∷ parts) last inside are some found = absurd are.1.1
in-last plan own place area (c ∷ e ∷ p ∷ shapes) (a ∷ b ∷ []) last inside are some found = absurd are.1.1
in-last plan own place area (c ∷ e ∷ p ∷ []) (a ∷ b ∷ d ∷ f ∷ parts) last inside are some found = absurd are.1.1.1
in-last plan own place area (c ∷ e ∷ p ∷ q ∷ shapes) (a ∷ b ∷ d ∷ []) last inside are some found = absurd are.1.1.1

-- a place that is found is a requested one
pub found-asked : (plan : PlanOf) (o : Option Place) (place : Place) → if_found plan o ≡ Some place → o ≡ Some place
found-asked plan None place is = absurd cc
found-asked plan (Some p) place is = by (is_found plan p.context p.exten p.priority) is
  where
    by : (b : Bool) → (if b then Some p else None) ≡ Some place → Some p ≡ Some place
    by true is = is
    by false is = absurd cc

-- the last part of a text fits the last pieces
record IsLastPart (pieces : List PieceOf) (part : List ℕ) : Type 0 where
  text : List ℕ
  trimmed : part ≡ trim text
  fits : Fits pieces text

last-part : (parts : List (List PieceOf)) (texts : List (List ℕ)) (part : List ℕ) → AllFit parts texts → slice_get (map trim texts) (length (map trim texts) - 1) ≡ Some part
    → IsLastPart (last_part parts) part
last-part [] [] part fit is = absurd cc
last-part [] (text ∷ texts) part fit is = absurd fit
last-part (pieces ∷ more) [] part fit is = absurd fit
last-part (pieces ∷ []) (text ∷ []) part fit is = record { text = text; trimmed = cc; fits = fit.0 }
last-part (pieces ∷ []) (text ∷ next ∷ texts) part fit is = absurd fit.1
last-part (pieces ∷ other ∷ more) (text ∷ []) part fit is = absurd fit.1
last-part (pieces ∷ other ∷ more) (text ∷ next ∷ texts) part fit is =
    let at : length (trim text ∷ trim next ∷ map trim texts) - 1 ≡ suc (length (trim next ∷ map trim texts) - 1) = omega arith in
    last-part (other ∷ more) (next ∷ texts) part fit.1 (ap (slice_get (trim text ∷ trim next ∷ map trim texts)) (sym at) ∙ is)

-- locals with numbers
pub locals-of : (claim : Claim) (number : ℕ) (shapes : List (List PieceOf)) (values : List (List ℕ)) → AllFit shapes values → MeetsAll claim (numbered_duties number shapes)
    → AreLocals claim.names (argument_locals number values)
locals-of claim number [] [] are met = tt
locals-of claim number [] (value ∷ values) are met = absurd are
locals-of claim number (shape ∷ shapes) [] are met = absurd are
locals-of claim number (shape ∷ shapes) (value ∷ values) are met =
    (within-more (pieces_set shape) _ met.0 value (fits-set shape value are.0), locals-of claim (number + 1) shapes values are.1 met.1)

pub locals-all : (claim : Claim) (set : Bytes) → Meets claim (HoldsAll set) → (number : ℕ) (values : List (List ℕ)) → AllByRecursion (Within set) values
    → AreLocals claim.names (argument_locals number values)
locals-all claim set met number [] all = tt
locals-all claim set met number (value ∷ values) all =
    (within-more set _ (met (codes "ARG" ++ decimal number)) value all.0, locals-all claim set met (number + 1) values all.1)

-- the priority and the arguments of a subroutine call are within a set
record IsCallWithin (set : Bytes) (call : SubroutineCallOf) : Type 0 where
  priority : Within set call.priority
  arguments : AllByRecursion (Within set) call.arguments

last-within : (set : Bytes) (text front : List ℕ) → Within set text → before_last 41 text ≡ Some front → Within set front
last-within set [] front within is = absurd cc
last-within set (b ∷ bs) front within is = by (before_last 41 bs) refl (λ f e. last-within set bs f within.1 e) is
  where
    by : (o : Option (List ℕ)) → before_last 41 bs ≡ o → ((f : List ℕ) → before_last 41 bs ≡ Some f → Within set f)
        → option_map_or (λ f. Some (b ∷ f)) o (if b == 41 then Some [] else None) ≡ Some front → Within set front
    by None from later same = none (b == 41) same
      where
        none : (t : Bool) → (if t then Some [] else None) ≡ Some front → Within set front
        none true same = subst (Within set) (let e : [] ≡ front = cc in e) tt
        none false same = absurd cc
    by (Some f) from later same = subst (Within set) (let e : b ∷ f ≡ front = cc in e) (within.0, later f from)

inner-within : (set : Bytes) (inside : List ℕ) → Within set inside → AllByRecursion (Within set) (inner_arguments inside)
inner-within set [] within = tt
inner-within set (b ∷ bs) within = arguments-within set (b ∷ bs) within

call-within : (set : Bytes) (part : List ℕ) (call : SubroutineCallOf) → Within set part → called_by part (cut_once 40 part) ≡ Some call → IsCallWithin set call
call-within set part call within is = by (cut_once 40 part) refl is
  where
    inner : (cut : List ℕ × List ℕ) → cut_once 40 part ≡ Some cut → (o : Option (List ℕ)) → before_last 41 cut.1 ≡ o
        → option_map (λ inside. record { priority = trim cut.0; arguments = inner_arguments inside }) o ≡ Some call → IsCallWithin set call
    inner cut from None last same = absurd cc
    inner cut from (Some inside) last same =
        let one : (let c : SubroutineCallOf = record { priority = trim cut.0; arguments = inner_arguments inside } in c ≡ call) = cc in
        let parted = cut_once-is 40 part cut.0 cut.1 from in
        subst (IsCallWithin set) one (record {
          priority = within-trim set cut.0 (each-cut_front (λ b. set b ≡ true) 40 part cut.0 cut.1 parted within);
          arguments = inner-within set inside (last-within set cut.1 inside (each-cut_rest (λ b. set b ≡ true) 40 part cut.0 cut.1 parted within) last);
        })

    by : (o : Option (List ℕ × List ℕ)) → cut_once 40 part ≡ o → called_by part o ≡ Some call → IsCallWithin set call
    by None from same =
        let one : (let c : SubroutineCallOf = record { priority = part; arguments = [] } in c ≡ call) = cc in
        subst (IsCallWithin set) one (record { priority = within; arguments = tt })
    by (Some cut) from same = inner cut from (before_last 41 cut.1) refl same

-- the locals of a call, given the pieces of its last part
module _ (claim : Claim) (set : Bytes) (pieces : List PieceOf) (part : List ℕ) (call : SubroutineCallOf) (last : IsLastPart pieces part) (within : Within set part)
    (is : called_by part (cut_once 40 part) ≡ Some call) where
  all-locals : Meets claim (HoldsAll set) → AreLocals claim.names (argument_locals 1 call.arguments)
  all-locals met = locals-all claim set met 1 call.arguments (call-within set part call within is).arguments

  -- given the text between the parentheses
  inner-locals : (inside : List PieceOf) (text : List ℕ) → Fits inside text → MeetsAll claim (if are_clean 0 inside then numbered_duties 1 (shapes_of inside) else HoldsAll set ∷ [])
      → inner_arguments text ≡ call.arguments → AreLocals claim.names (argument_locals 1 call.arguments)
  inner-locals inside text fits met same = by (are_clean 0 inside) refl met
    where
      inner : (text : List ℕ) → AllFit (shapes_of inside) (arguments_of text) → MeetsAll claim (numbered_duties 1 (shapes_of inside)) → AreLocals claim.names (argument_locals 1 (inner_arguments text))
      inner [] are met = tt
      inner (b ∷ bs) are met = locals-of claim 1 (shapes_of inside) (arguments_of (b ∷ bs)) are met

      by : (clean : Bool) → are_clean 0 inside ≡ clean → MeetsAll claim (if clean then numbered_duties 1 (shapes_of inside) else HoldsAll set ∷ [])
          → AreLocals claim.names (argument_locals 1 call.arguments)
      by true clean met = subst (λ values. AreLocals claim.names (argument_locals 1 values)) same (inner text (fits-arguments inside text clean fits) met)
      by false clean met = all-locals met.0

  part-locals : MeetsAll claim (call_duties set (cut_pieces 40 pieces)) → AreLocals claim.names (argument_locals 1 call.arguments)
  part-locals met = by (cut_pieces 40 pieces) (cut_once 40 last.text) refl (cut-pieces 40 pieces last.text last.fits) met
    where
      to : (cut : Option (List ℕ × List ℕ)) → cut_once 40 (trim last.text) ≡ cut → called_by part cut ≡ Some call
      to cut from = subst (λ o. called_by part o ≡ Some call) (ap (cut_once 40) last.trimmed ∙ from) is

      inner : (cutting : CuttingOf) (rest : List ℕ) → IsLast cutting (before_last 41 rest) → MeetsAll claim (inside_duties set cutting) → (front : List ℕ) (o : Option (List ℕ))
          → before_last 41 rest ≡ o → option_map (λ inside. record { priority = front; arguments = inner_arguments inside }) o ≡ Some call
          → AreLocals claim.names (argument_locals 1 call.arguments)
      inner Unsure rest lasts met front o from same = all-locals met.0
      inner Nowhere rest lasts met front None from same = absurd cc
      inner Nowhere rest lasts met front (Some inside) from same = absurd cc
      inner (At i r) rest lasts met front None from same = absurd cc
      inner (At i r) rest lasts met front (Some inside) from same =
          let one : (let c : SubroutineCallOf = record { priority = front; arguments = inner_arguments inside } in c ≡ call) = cc in
          inner-locals i inside (subst (IsLast (At i r)) from lasts) met (ap (λ c. c.arguments) one)

      by : (cutting : CuttingOf) (cut : Option (List ℕ × List ℕ)) → cut_once 40 last.text ≡ cut → IsCutAs cutting cut → MeetsAll claim (call_duties set cutting)
          → AreLocals claim.names (argument_locals 1 call.arguments)
      by Unsure cut from are met = all-locals met.0
      by Nowhere (Some cut) from are met = absurd cc
      by Nowhere None from are met =
          let none = to None (none-trimmed last.text from) in
          let one : (let c : SubroutineCallOf = record { priority = part; arguments = [] } in c ≡ call) = cc in
          subst (λ (c : SubroutineCallOf). AreLocals claim.names (argument_locals 1 c.arguments)) one tt
      by (At f r) None from are met = absurd are
      by (At f r) (Some cut) from are met =
          inner (cut_last 41 r) cut.1 (last-fits 41 r cut.1 are.1) met (trim (trim_start cut.0)) (before_last 41 cut.1) refl
          (ap (option_map (λ inside. record { priority = trim (trim_start cut.0); arguments = inner_arguments inside })) (sym (last-trimmed cut.1))
          ∙ to (Some (trim_start cut.0, trim_end cut.1)) (cut-trimmed last.text cut.0 cut.1 from))

-- a list that has an element
some-length : {X : Type 0} (xs : List X) (i : ℕ) (x : X) → slice_get xs i ≡ Some x → 1 ≤ length xs
some-length [] i x is = absurd cc
some-length (y ∷ ys) i x is = omega arith

some-all : (parts : List (List PieceOf)) (texts : List (List ℕ)) → SomeFit parts texts → AllFit parts texts
some-all [] texts fit = absurd fit
some-all (pieces ∷ more) texts fit = fit

-- a subroutine that is entered with a text
module _ (claim : Claim) (area : Area) (pieces : List PieceOf) (text : List ℕ) (cell : CellOf) (good : IsGood claim cell) (inside : IsIn area cell.place) (own : Covers claim.plan claim.reach cell.place)
    (fits : Fits pieces text) (met : MeetsAll claim (subroutine_duties area pieces)) where
  met-leads : MeetsAll claim (map Leads (targets area pieces))
  met-leads = each-front (Meets claim) (map Leads (targets area pieces)) (target_duties (pieces_set pieces) pieces) met

  met-target : MeetsAll claim (target_duties (pieces_set pieces) pieces)
  met-target = each-rest (Meets claim) (map Leads (targets area pieces)) (target_duties (pieces_set pieces) pieces) met

  call-parts : List (List ℕ)
  call-parts = arguments_of text

  parts-within : AllByRecursion (Within (pieces_set pieces)) (arguments_of text)
  parts-within = arguments-within (pieces_set pieces) text (fits-set pieces text fits)

  module _ (part : List ℕ) (call : SubroutineCallOf) (at : slice_get (arguments_of text) (length (arguments_of text) - 1) ≡ Some part) (is : called_by part (cut_once 40 part) ≡ Some call) where
    part-within : Within (pieces_set pieces) part
    part-within = each-get (Within (pieces_set pieces)) (arguments_of text) (length (arguments_of text) - 1) part parts-within at

    pub enter_subroutine-locals : AreLocals claim.names (argument_locals 1 call.arguments)
    unfolding parts_of
    enter_subroutine-locals = by (are_clean 0 pieces) refl met-target
      where
        by : (clean : Bool) → are_clean 0 pieces ≡ clean
            → MeetsAll claim (if clean then call_duties (pieces_set pieces) (cut_pieces 40 (last_part (split_pieces 0 pieces))) else HoldsAll (pieces_set pieces) ∷ [])
            → AreLocals claim.names (argument_locals 1 call.arguments)
        by true clean met =
            part-locals claim (pieces_set pieces) (last_part (split_pieces 0 pieces)) part call
            (last-part (split_pieces 0 pieces) (split_after parts_arguments [] text) part
            (some-all (split_pieces 0 pieces) (split_after parts_arguments [] text) (split-fits pieces text [] 0 refl clean fits)) at)
            part-within is met
        by false clean met = locals-all claim (pieces_set pieces) met.0 1 call.arguments (call-within (pieces_set pieces) part call part-within is).arguments

    pub enter_subroutine-covers : (place : Place) → parts_place claim.plan cell.place (with_last (arguments_of text) call.priority) ≡ Some place → Covers claim.plan claim.reach place
    enter_subroutine-covers place found =
        covers-included claim.plan claim.reach (targets area pieces) place (includes-all claim (targets area pieces) met-leads) (by (are_clean 0 pieces) refl)
      where
        by : (clean : Bool) → are_clean 0 pieces ≡ clean → IsInOne (if clean then targets_of area (shapes_of pieces) else targets_within area (pieces_set pieces)) place
        by true clean =
            in-last claim.plan cell.place place area (shapes_of pieces) (arguments_of text) call.priority inside (fits-arguments pieces text clean fits)
            (some-length (arguments_of text) (length (arguments_of text) - 1) part at) found
        by false clean =
            in-within claim.plan cell.place place area (pieces_set pieces) (with_last (arguments_of text) call.priority) inside
            (each-append (Within (pieces_set pieces)) (take (length (arguments_of text) - 1) (arguments_of text)) (call.priority ∷ [])
            (each-take (Within (pieces_set pieces)) (length (arguments_of text) - 1) (arguments_of text) parts-within)
            ((call-within (pieces_set pieces) part call part-within is).priority, tt)) found

    back-covers : Covers claim.plan claim.reach (place_after cell.place)
    back-covers = covers-same claim.plan claim.reach cell.place (place_after cell.place) refl refl own

  pub enter_subroutine-inside : IsInside claim cell.place (gosub_row text cell)
  unfolding gosub_row
  enter_subroutine-inside = by (slice_get (arguments_of text) (length (arguments_of text) - 1)) refl
    where
      enters : (part : List ℕ) → slice_get (arguments_of text) (length (arguments_of text) - 1) ≡ Some part → (o : Option SubroutineCallOf) → called_by part (cut_once 40 part) ≡ o
          → IsInside claim cell.place (enter_subroutine cell (take (length (arguments_of text) - 1) (arguments_of text)) o)
      enters part at None is = record { cell = good; next = tt }
      enters part at (Some call) is = record {
        cell = record {
          store = kept-with_frame claim cell.store (place_after cell.place) (argument_locals 1 call.arguments) good.store (back-covers part call at is) (enter_subroutine-locals part call at is);
          globals = good.globals;
          caller = good.caller;
        };
        next = λ place found.
            enter_subroutine-covers part call at is place (found-asked claim.plan (parts_place claim.plan cell.place (with_last (arguments_of text) call.priority)) place found);
      }

      by : (o : Option (List ℕ)) → slice_get (arguments_of text) (length (arguments_of text) - 1) ≡ o
          → IsInside claim cell.place (enter_subroutine cell (take (length (arguments_of text) - 1) (arguments_of text)) (option_and_then (λ part. called_by part (cut_once 40 part)) o))
      by None at = record { cell = good; next = tt }
      by (Some part) at = enters part at (called_by part (cut_once 40 part)) refl

-- the row of `Gosub`
pub gosub-bounded : IsBounded gosub_duties gosub_row
gosub-bounded claim area pieces arguments cell good inside own fits met =
    enter_subroutine-inside claim area pieces arguments cell good inside own fits met

-- one of several sides
one-inside : (claim : Claim) (area : Area) (text : List ℕ) (cell : CellOf) → IsGood claim cell → IsIn area cell.place → Covers claim.plan claim.reach cell.place → (sides : List (List PieceOf))
    → FitsOne sides text → MeetsAll claim (flat_map (subroutine_duties area) sides) → IsInside claim cell.place (gosub_row text cell)
one-inside claim area text cell good inside own [] fits met = absurd fits
one-inside claim area text cell good inside own (pieces ∷ more) (inl here) met =
    enter_subroutine-inside claim area pieces text cell good inside own here
    (each-front (Meets claim) (subroutine_duties area pieces) (flat_map (subroutine_duties area) more) met)
one-inside claim area text cell good inside own (pieces ∷ more) (inr there) met =
    one-inside claim area text cell good inside own more there
    (each-rest (Meets claim) (subroutine_duties area pieces) (flat_map (subroutine_duties area) more) met)

-- the row of `GosubIf`
pub gosub_if-bounded : IsBounded gosub_if_duties gosub_if_row
unfolding gosub_if_row
gosub_if-bounded claim area pieces arguments cell good inside own fits met = by (chosen_side arguments) refl
  where
    set : Bytes
    set = pieces_set pieces

    fits-or : (o : Option (List (List PieceOf))) → sides_in pieces ≡ o → (side : List ℕ) → chosen_side arguments ≡ Some side → FitsOne (sides_or set o) side
    fits-or None from side is =
        inl (fits-any_bytes_of set side (chosen_side-within set arguments side (fits-set pieces arguments fits) is))
    fits-or (Some sides) from side is =
        chosen_side-fits pieces arguments side fits sides from is

    by : (o : Option (List ℕ)) → chosen_side arguments ≡ o → IsInside claim cell.place (gosub_if o cell)
    by None is = record { cell = good; next = tt }
    by (Some side) is =
        one-inside claim area side cell good inside own (sides_or set (sides_in pieces)) (fits-or (sides_in pieces) refl side is) met
