-- The rows that choose between targets stay inside if what they owe is met.
use Rattle.std.proofs.Common.{◌≡◌, inl, inr, ℕ, Bool, true, false, List, [], ◌∷◌, ◌++◌, Option, Some, None, refl, ap, subst, if◌then◌else◌}
use Rattle.std.specs.List.{flat_map}
use Rattle.std.specs.Option.{option_and_then}
use Rattle.dp_conf.proofs.TextLemmas.{cut_once-is, each-cut_rest}
use Rattle.dp_conf.specs.Blanks.{trim}
use Rattle.dp_conf.specs.Cut.{cut_once}
use Rattle.dp_conf.specs.Levels.{arguments_of, cut_after, cut_outside, stands_outside}
use Rattle.dp_plan.specs.Plan.{PlanOf}
use Rattle.dp_app.specs.declared.place.Place.{Place}
use Rattle.dp_machine.specs.Targets.{parts_place}
use Rattle.dp_flow.specs.Conditions.{chosen_side, chosen_by, holds, present_by, side_of}
use Rattle.dp_flow.specs.Jumps.{goto_if_row, jump_if}
use Rattle.dp_pieces.specs.Bytes.{Bytes, Within}
use Rattle.dp_pieces.specs.Cuts.{At, CuttingOf, Nowhere, Unsure, cut_level, cut_pieces}
use Rattle.dp_pieces.specs.Fitting.{IsCutAs}
use Rattle.dp_pieces.specs.Pieces.{Fits, PieceOf, pieces_set}
use Rattle.dp_pieces.proofs.CutLemmas.{cut-level, cut-pieces}
use Rattle.dp_pieces.proofs.FitsLemmas.{fits-set}
use Rattle.dp_pieces.proofs.WithinLemmas.{within-append}
use Rattle.dp_reach.specs.Areas.{Area, Covers, IsIn, IsInOne, targets, targets_within}
use Rattle.dp_reach.specs.Bounds.{IsBounded, MeetsAll, goto_if_duties, sides_duties}
use Rattle.dp_reach.specs.Choices.{sides_by, sides_in, sides_of}
use Rattle.dp_reach.specs.Holding.{Claim, LeadsInto}
use Rattle.dp_reach.proofs.GotoRow.{includes-all}
use Rattle.dp_reach.proofs.TargetLemmas.{FitsOne, arguments-within, covers-included, in-front, in-later, in-targets, in-within}

-- a side that exists is what it is
present-is : (side kept result : List ℕ) → present_by side kept ≡ Some result → side ≡ result
present-is side [] result is = absurd cc
present-is side (b ∷ bs) result is = cc

-- a side of a choice fits one of the sides of its pieces
pub side-fits : (text : List ℕ) (rest : List PieceOf) → Fits rest text → (cutting : CuttingOf) (cut : Option (List ℕ × List ℕ)) → IsCutAs cutting cut
    → (sides : List (List PieceOf)) → sides_by rest cutting ≡ Some sides → (taken : Bool) (side result : List ℕ)
    → side_of taken text cut ≡ Some side → side ≡ result → FitsOne sides result
side-fits text rest fits Nowhere (Some cut) are sides known taken side result is same = absurd cc
side-fits text rest fits Nowhere None are sides known true side result is same =
    subst (λ s. FitsOne s result) (let e : rest ∷ [] ≡ sides = cc in e) (inl (subst (Fits rest) (let e : text ≡ result = cc in e) fits))
side-fits text rest fits Nowhere None are sides known false side result is same = absurd cc
side-fits text rest fits Unsure cut are sides known taken side result is same = absurd cc
side-fits text rest fits (At first second) None are sides known taken side result is same = absurd are
side-fits text rest fits (At first second) (Some cut) are sides known true side result is same =
    subst (λ s. FitsOne s result) (let e : first ∷ second ∷ [] ≡ sides = cc in e) (inl (subst (Fits first) (let e : cut.0 ≡ result = cc in e) are.0))
side-fits text rest fits (At first second) (Some cut) are sides known false side result is same =
    subst (λ s. FitsOne s result) (let e : first ∷ second ∷ [] ≡ sides = cc in e) (inr (inl (subst (Fits second) (let e : cut.1 ≡ result = cc in e) are.1)))

-- the choice, given the side that is taken
pub chosen_side-side : (o : Option (List ℕ)) (result : List ℕ) → option_and_then (λ side. present_by side (trim side)) o ≡ Some result → o ≡ Some result
chosen_side-side None result is = absurd cc
chosen_side-side (Some side) result is = ap (λ s. Some s) (present-is side (trim side) result is)

pub chosen_side-fits : (pieces : List PieceOf) (text result : List ℕ) → Fits pieces text → (sides : List (List PieceOf)) → sides_in pieces ≡ Some sides → chosen_side text ≡ Some result
    → FitsOne sides result
unfolding chosen_side
chosen_side-fits pieces text result fits sides known is = by (cut_pieces 63 pieces) (cut_once 63 text) (cut-pieces 63 pieces text fits) known is
  where
    by : (cutting : CuttingOf) (cut : Option (List ℕ × List ℕ)) → IsCutAs cutting cut → sides_of cutting ≡ Some sides → chosen_by cut ≡ Some result → FitsOne sides result
    by Nowhere None are known is = absurd cc
    by Nowhere (Some cut) are known is = absurd cc
    by Unsure cut are known is = absurd cc
    by (At condition rest) None are known is = absurd are
    by (At condition rest) (Some cut) are known is =
        side-fits cut.1 rest are.1 (cut_level 58 0 rest) (cut_outside 58 cut.1) (cut-level 58 rest cut.1 are.1) sides known (holds cut.0) result result
        (chosen_side-side (side_of (holds cut.0) cut.1 (cut_outside 58 cut.1)) result is) refl

-- the choice is a part of the text
pub cut-within : (set : Bytes) (mark : ℕ) (text before front rest : List ℕ) → Within set text → Within set before → cut_after (stands_outside mark) before text ≡ Some (front, rest)
    → Within set front × Within set rest
cut-within set mark [] before front rest is start cut = absurd cc
cut-within set mark (b ∷ bs) before front rest is start cut =
    by (stands_outside mark before b) (cut-within set mark bs (before ++ b ∷ []) front rest is.1 (within-append set before (b ∷ []) start (is.0, tt))) cut
  where
    by : (t : Bool) → (cut_after (stands_outside mark) (before ++ b ∷ []) bs ≡ Some (front, rest) → Within set front × Within set rest)
        → if◌then◌else◌ {A = Option (List ℕ × List ℕ)} t (Some (before, bs)) (cut_after (stands_outside mark) (before ++ b ∷ []) bs) ≡ Some (front, rest)
        → Within set front × Within set rest
    by true later same =
        let pair : (let p : List ℕ × List ℕ = (before, bs) in p ≡ (front, rest)) = cc in
        (subst (Within set) (ap (λ p. p.0) pair) start, subst (Within set) (ap (λ p. p.1) pair) is.1)
    by false later same = later same

pub chosen_side-within : (set : Bytes) (text result : List ℕ) → Within set text → chosen_side text ≡ Some result → Within set result
unfolding chosen_side cut_outside
chosen_side-within set text result within is = by (cut_once 63 text) refl is
  where
    side : (taken : Bool) (rest : List ℕ) (cut : Option (List ℕ × List ℕ)) → cut_outside 58 rest ≡ cut → Within set rest → side_of taken rest cut ≡ Some result → Within set result
    side true rest None from all same = subst (Within set) (let e : rest ≡ result = cc in e) all
    side false rest None from all same = absurd cc
    side true rest (Some cut) from all same = subst (Within set) (let e : cut.0 ≡ result = cc in e) (cut-within set 58 rest [] cut.0 cut.1 all tt from).0
    side false rest (Some cut) from all same = subst (Within set) (let e : cut.1 ≡ result = cc in e) (cut-within set 58 rest [] cut.0 cut.1 all tt from).1

    by : (cut : Option (List ℕ × List ℕ)) → cut_once 63 text ≡ cut → chosen_by cut ≡ Some result → Within set result
    by None from same = absurd cc
    by (Some cut) from same =
        side (holds cut.0) cut.1 (cut_outside 58 cut.1) refl (each-cut_rest (λ b. set b ≡ true) 63 text cut.0 cut.1 (cut_once-is 63 text cut.0 cut.1 from) within)
        (chosen_side-side (side_of (holds cut.0) cut.1 (cut_outside 58 cut.1)) result same)

-- the target of one of the sides
pub in-one : (plan : PlanOf) (area : Area) (own place : Place) (text : List ℕ) → IsIn area own → parts_place plan own (arguments_of text) ≡ Some place
    → (sides : List (List PieceOf)) → FitsOne sides text → IsInOne (flat_map (targets area) sides) place
in-one plan area own place text inside found [] fits = absurd fits
in-one plan area own place text inside found (pieces ∷ more) (inl here) =
    in-front (targets area pieces) (flat_map (targets area) more) place (in-targets plan area own place pieces text inside here found)
in-one plan area own place text inside found (pieces ∷ more) (inr there) =
    in-later (targets area pieces) (flat_map (targets area) more) place (in-one plan area own place text inside found more there)

-- the target of the choice
pub covers-chosen_side : (claim : Claim) (area : Area) (own place : Place) (pieces : List PieceOf) (set : Bytes) (text side : List ℕ) → IsIn area own → Fits pieces text → Within set text
    → MeetsAll claim (sides_duties area set (sides_in pieces)) → chosen_side text ≡ Some side → parts_place claim.plan own (arguments_of side) ≡ Some place → Covers claim.plan claim.reach place
covers-chosen_side claim area own place pieces set text side inside fits within met is found = by (sides_in pieces) refl met
  where
    by : (o : Option (List (List PieceOf))) → sides_in pieces ≡ o → MeetsAll claim (sides_duties area set o) → Covers claim.plan claim.reach place
    by None from met =
        covers-included claim.plan claim.reach (targets_within area set) place (includes-all claim (targets_within area set) met)
        (in-within claim.plan own place area set (arguments_of side) inside (arguments-within set side (chosen_side-within set text side within is)) found)
    by (Some sides) from met =
        covers-included claim.plan claim.reach (flat_map (targets area) sides) place (includes-all claim (flat_map (targets area) sides) met)
        (in-one claim.plan area own place side inside found sides (chosen_side-fits pieces text side fits sides from is))

-- the row of `GotoIf`
pub goto_if-bounded : IsBounded goto_if_duties goto_if_row
goto_if-bounded claim area pieces arguments cell good inside own fits met = record { cell = good; next = by (chosen_side arguments) refl }
  where
    by : (o : Option (List ℕ)) → chosen_side arguments ≡ o → LeadsInto claim cell.place (jump_if o)
    by None is = tt
    by (Some side) is = λ place found.
        covers-chosen_side claim area cell.place place pieces (pieces_set pieces) arguments side inside
        fits (fits-set pieces arguments fits) met is found
