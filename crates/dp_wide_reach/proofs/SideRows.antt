-- A side of a choice that is taken, whatever takes it, and the row of `GotoIfTime`.
use Rattle.std.proofs.Common.{◌≡◌, ℕ, Bool, true, false, List, [], ◌∷◌, Option, Some, None, refl, sym, ap, ◌∙◌, subst}
use Rattle.std.specs.List.{flat_map}
use Rattle.std.specs.Option.{option_and_then}
use Rattle.dp_conf.proofs.TextLemmas.{cut_once-is, each-cut_rest}
use Rattle.dp_conf.specs.Blanks.{trim}
use Rattle.dp_conf.specs.Cut.{cut_once}
use Rattle.dp_conf.specs.Levels.{arguments_of, cut_outside}
use Rattle.dp_app.specs.declared.place.Place.{Place}
use Rattle.dp_flow.specs.Conditions.{present_by, side_of, taken_side}
use Rattle.dp_flow.specs.Jumps.{jump_if}
use Rattle.dp_machine.specs.Targets.{parts_place}
use Rattle.dp_pieces.specs.Bytes.{Bytes, Within}
use Rattle.dp_pieces.specs.Cuts.{At, CuttingOf, Nowhere, Unsure, cut_level, cut_pieces}
use Rattle.dp_pieces.specs.Fitting.{IsCutAs}
use Rattle.dp_pieces.specs.Pieces.{Fits, PieceOf, pieces_set}
use Rattle.dp_pieces.proofs.CutLemmas.{cut-level, cut-pieces}
use Rattle.dp_pieces.proofs.FitsLemmas.{fits-set}
use Rattle.dp_wide.specs.TimeChoice.{clock_in, goto_if_time_row, is_time, timed_side}
use Rattle.dp_reach.specs.Areas.{Area, Covers, IsIn, targets, targets_within}
use Rattle.dp_reach.specs.Bounds.{IsBounded, MeetsAll, goto_if_duties, sides_duties}
use Rattle.dp_reach.specs.Choices.{sides_by, sides_in, sides_of}
use Rattle.dp_reach.specs.Holding.{Claim, LeadsInto}
use Rattle.dp_reach.proofs.ChoiceRows.{chosen_side-side, cut-within, in-one, side-fits}
use Rattle.dp_reach.proofs.GotoRow.{includes-all}
use Rattle.dp_reach.proofs.TargetLemmas.{FitsOne, arguments-within, covers-included, in-within}
use Rattle.dp_wide.specs.declared.times.Moment.{Moment}

-- the side that is taken fits one of the sides of the pieces
pub taken_side-fits : (rest : List PieceOf) (text : List ℕ) → Fits rest text → (sides : List (List PieceOf)) → sides_by rest (cut_level 58 0 rest) ≡ Some sides
    → (taken : Bool) (result : List ℕ) → taken_side taken text ≡ Some result → FitsOne sides result
taken_side-fits rest text fits sides known taken result is =
    side-fits text rest fits (cut_level 58 0 rest) (cut_outside 58 text) (cut-level 58 rest text fits) sides known taken result result
    (chosen_side-side (side_of taken text (cut_outside 58 text)) result is) refl

-- it has more than blanks
taken_side-present_by : (o : Option (List ℕ)) (result : List ℕ) → option_and_then (λ side. present_by side (trim side)) o ≡ Some result → trim result ≡ [] → ⊥
taken_side-present_by None result is empty = (cc)
taken_side-present_by (Some side) result is empty = by (trim side) refl is
  where
    by : (bare : List ℕ) → trim side ≡ bare → present_by side bare ≡ Some result → ⊥
    by [] from same = (cc)
    by (b ∷ bs) from same =
        let whole : side ≡ result = cc in
        let no : b ∷ bs ≡ [] = sym from ∙ (ap trim whole ∙ empty) in let c : ⊥ = cc in c

pub taken_side-present : (text : List ℕ) (taken : Bool) (result : List ℕ) → taken_side taken text ≡ Some result → trim result ≡ [] → ⊥
taken_side-present text taken result is = taken_side-present_by (side_of taken text (cut_outside 58 text)) result is

-- and is a part of the text
pub taken_side-within : (set : Bytes) (text : List ℕ) → Within set text → (taken : Bool) (result : List ℕ) → taken_side taken text ≡ Some result → Within set result
unfolding cut_outside
taken_side-within set text within taken result is =
    side taken (cut_outside 58 text) refl (chosen_side-side (side_of taken text (cut_outside 58 text)) result is)
  where
    side : (taken : Bool) (cut : Option (List ℕ × List ℕ)) → cut_outside 58 text ≡ cut → side_of taken text cut ≡ Some result → Within set result
    side true None from same = subst (Within set) (let e : text ≡ result = cc in e) within
    side false None from same = absurd cc
    side true (Some cut) from same = subst (Within set) (let e : cut.0 ≡ result = cc in e) (cut-within set 58 text [] cut.0 cut.1 within tt from).0
    side false (Some cut) from same = subst (Within set) (let e : cut.1 ≡ result = cc in e) (cut-within set 58 text [] cut.0 cut.1 within tt from).1

timed_side-fits : (clock : Option Moment) (pieces : List PieceOf) (text result : List ℕ) → Fits pieces text → (sides : List (List PieceOf)) → sides_in pieces ≡ Some sides
    → timed_side clock text ≡ Some result → FitsOne sides result
timed_side-fits clock pieces text result fits sides known is = by (cut_pieces 63 pieces) (cut_once 63 text) (cut-pieces 63 pieces text fits) known is
  where
    by : (cutting : CuttingOf) (cut : Option (List ℕ × List ℕ)) → IsCutAs cutting cut → sides_of cutting ≡ Some sides
        → option_and_then (λ cut. taken_side (is_time clock cut.0) cut.1) cut ≡ Some result → FitsOne sides result
    by Nowhere None are known is = absurd cc
    by Nowhere (Some cut) are known is = absurd cc
    by Unsure cut are known is = absurd cc
    by (At condition rest) None are known is = absurd are
    by (At condition rest) (Some cut) are known is = taken_side-fits rest cut.1 are.1 sides known (is_time clock cut.0) result is

timed_side-within : (clock : Option Moment) (set : Bytes) (text result : List ℕ) → Within set text → timed_side clock text ≡ Some result → Within set result
timed_side-within clock set text result within is = by (cut_once 63 text) refl is
  where
    by : (cut : Option (List ℕ × List ℕ)) → cut_once 63 text ≡ cut → option_and_then (λ cut. taken_side (is_time clock cut.0) cut.1) cut ≡ Some result → Within set result
    by None from same = absurd cc
    by (Some cut) from same =
        taken_side-within set cut.1 (each-cut_rest (λ b. set b ≡ true) 63 text cut.0 cut.1 (cut_once-is 63 text cut.0 cut.1 from) within) (is_time clock cut.0) result same

-- the target of a side
covers-side : (claim : Claim) (area : Area) (own place : Place) (pieces : List PieceOf) (set : Bytes) (side : List ℕ) → IsIn area own → Within set side
    → ((sides : List (List PieceOf)) → sides_in pieces ≡ Some sides → FitsOne sides side)
    → MeetsAll claim (sides_duties area set (sides_in pieces)) → parts_place claim.plan own (arguments_of side) ≡ Some place → Covers claim.plan claim.reach place
covers-side claim area own place pieces set side inside within fits met found = by (sides_in pieces) refl met
  where
    by : (o : Option (List (List PieceOf))) → sides_in pieces ≡ o → MeetsAll claim (sides_duties area set o) → Covers claim.plan claim.reach place
    by None from met =
        covers-included claim.plan claim.reach (targets_within area set) place (includes-all claim (targets_within area set) met)
        (in-within claim.plan own place area set (arguments_of side) inside (arguments-within set side within) found)
    by (Some sides) from met =
        covers-included claim.plan claim.reach (flat_map (targets area) sides) place (includes-all claim (flat_map (targets area) sides) met)
        (in-one claim.plan area own place side inside found sides (fits sides from))

-- the row of `GotoIfTime`
pub goto_if_time-bounded : IsBounded goto_if_duties goto_if_time_row
goto_if_time-bounded claim area pieces arguments cell good inside own fits met = record { cell = good; next = by (timed_side (clock_in cell.globals) arguments) refl }
  where
    by : (o : Option (List ℕ)) → timed_side (clock_in cell.globals) arguments ≡ o → LeadsInto claim cell.place (jump_if o)
    by None is = tt
    by (Some side) is = λ place found.
        covers-side claim area cell.place place pieces (pieces_set pieces) side inside
        (timed_side-within (clock_in cell.globals) (pieces_set pieces) arguments side (fits-set pieces arguments fits) is)
        (λ sides known. timed_side-fits (clock_in cell.globals) pieces arguments side fits sides known is) met found
