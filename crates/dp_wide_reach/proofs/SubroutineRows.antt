-- The rows of the wide table that enter subroutines and macros stay inside if what they owe is met.
use Rattle.std.proofs.Common.{◌≡◌, inl, inr, ℕ, ◌-◌, Bool, true, false, List, [], ◌∷◌, ◌++◌, length, take, codes, slice_get, Option, Some, None, refl, if◌then◌else◌}
use Rattle.std.specs.Fmt.{decimal}
use Rattle.std.specs.List.{flat_map}
use Rattle.std.specs.Option.{option_and_then}
use Rattle.dp_conf.proofs.TextLemmas.{each-append, each-front, each-rest}
use Rattle.dp_conf.specs.Blanks.{trim}
use Rattle.dp_conf.specs.Cut.{cut_once}
use Rattle.dp_conf.specs.Levels.{arguments_of, cut_outside}
use Rattle.dp_vars.specs.declared.local.Local.{Local}
use Rattle.dp_app.specs.Cells.{CellOf}
use Rattle.dp_app.specs.declared.place.Place.{Place}
use Rattle.dp_machine.specs.Targets.{parts_place}
use Rattle.dp_flow.specs.Conditions.{chosen_side}
use Rattle.dp_flow.specs.Jumps.{SubroutineCallOf, argument_locals, called_by, inner_arguments, place_after}
use Rattle.dp_pieces.specs.Arguments.{are_clean, shapes_of}
use Rattle.dp_pieces.specs.Bytes.{Bytes, Within, digits}
use Rattle.dp_pieces.specs.Cuts.{At, CuttingOf, Nowhere, Unsure, cut_level}
use Rattle.dp_pieces.specs.Fitting.{IsCutAs}
use Rattle.dp_pieces.specs.Pieces.{Fits, PieceOf, any_bytes_of, exactly, pieces_set}
use Rattle.dp_pieces.specs.Trimmed.{without_end_blanks}
use Rattle.dp_pieces.proofs.ArgumentLemmas.{fits-arguments}
use Rattle.dp_pieces.proofs.CutLemmas.{cut-level}
use Rattle.dp_pieces.proofs.FitsLemmas.{fits-any_bytes_of, fits-append, fits-exactly, fits-set}
use Rattle.dp_pieces.proofs.NumeralLemmas.{within-decimal}
use Rattle.dp_pieces.proofs.TrimmedLemmas.{fits-without_end_blanks}
use Rattle.dp_pieces.proofs.WithinLemmas.{within-more, within-trim}
use Rattle.dp_wide.specs.Macros.{enter_macro, macro_by, macro_locals, macro_row, macro_target}
use Rattle.dp_wide.specs.Subroutines.{counted_locals, enter_counted, gosub_if, gosub_if_row, gosub_row, with_call}
use Rattle.dp_reach.specs.Areas.{Area, Covers, IsIn}
use Rattle.dp_reach.specs.Bounds.{HoldsAll, IsBounded, Leads, Meets, MeetsAll, inside_duties, numbered_duties, sides_or}
use Rattle.dp_reach.specs.Choices.{sides_in}
use Rattle.dp_reach.specs.Holding.{Claim, IsGood, IsInside}
use Rattle.dp_reach.proofs.CallRows.{enter_subroutine-covers, enter_subroutine-locals, found-asked, locals-all, locals-of}
use Rattle.dp_reach.proofs.ChoiceRows.{chosen_side-fits, chosen_side-within, cut-within}
use Rattle.dp_reach.proofs.StoreLemmas.{AreLocals, kept-with_frame}
use Rattle.dp_reach.proofs.TargetLemmas.{FitsOne, arguments-within, covers-included, covers-same, in-target}
use Rattle.dp_wide_reach.specs.Subroutines.{called_macro_duties, caller_duties, count_duty, counted_duties, counted_gosub_duties, counted_gosub_if_duties, macro_area, macro_duties}

-- the locals of a call with the number of its arguments
counted-locals : (claim : Claim) (arguments : List (List ℕ)) → Meets claim count_duty → AreLocals claim.names (argument_locals 1 arguments) → AreLocals claim.names (counted_locals arguments)
counted-locals claim arguments met locals =
    each-append (λ (local : Local). Within (claim.names.bytes local.name) local.value) (argument_locals 1 arguments) _ locals
    (within-more digits _ met (decimal (length arguments)) (within-decimal (length arguments)), tt)

-- a cell with one more frame, which returns to the place after the channel's own
good-with_call : (claim : Claim) (cell : CellOf) (locals : List Local) → IsGood claim cell → Covers claim.plan claim.reach cell.place → AreLocals claim.names locals
    → IsGood claim (with_call cell locals)
good-with_call claim cell locals good own are = record {
  store = kept-with_frame claim cell.store (place_after cell.place) locals good.store (covers-same claim.plan claim.reach cell.place (place_after cell.place) refl refl own) are;
  globals = good.globals;
  caller = good.caller;
}

-- a subroutine that is entered with a text
module _ (claim : Claim) (area : Area) (pieces : List PieceOf) (text : List ℕ) (cell : CellOf) (good : IsGood claim cell) (inside : IsIn area cell.place) (own : Covers claim.plan claim.reach cell.place)
    (fits : Fits pieces text) (met : MeetsAll claim (counted_duties area pieces)) where
  counted-inside : IsInside claim cell.place (gosub_row text cell)
  unfolding gosub_row
  counted-inside = by (slice_get (arguments_of text) (length (arguments_of text) - 1)) refl
    where
      front : List (List ℕ)
      front = take (length (arguments_of text) - 1) (arguments_of text)

      enters : (part : List ℕ) → slice_get (arguments_of text) (length (arguments_of text) - 1) ≡ Some part → (o : Option SubroutineCallOf) → called_by part (cut_once 40 part) ≡ o
          → IsInside claim cell.place (enter_counted cell front o)
      enters part at None is = record { cell = good; next = tt }
      enters part at (Some call) is = record {
        cell = good-with_call claim cell (counted_locals call.arguments) good own
            (counted-locals claim call.arguments met.0 (enter_subroutine-locals claim area pieces text cell good inside own fits met.1 part call at is));
        next = λ place found.
            enter_subroutine-covers claim area pieces text cell good inside own fits met.1 part call at is place
            (found-asked claim.plan (parts_place claim.plan cell.place (front ++ call.priority ∷ [])) place found);
      }

      by : (o : Option (List ℕ)) → slice_get (arguments_of text) (length (arguments_of text) - 1) ≡ o
          → IsInside claim cell.place (enter_counted cell front (option_and_then (λ part. called_by part (cut_once 40 part)) o))
      by None at = record { cell = good; next = tt }
      by (Some part) at = enters part at (called_by part (cut_once 40 part)) refl

-- the row of `Gosub`
pub counted_gosub-bounded : IsBounded counted_gosub_duties gosub_row
counted_gosub-bounded claim area pieces arguments cell good inside own fits met = counted-inside claim area pieces arguments cell good inside own fits met

-- one of several sides
one-counted : (claim : Claim) (area : Area) (text : List ℕ) (cell : CellOf) → IsGood claim cell → IsIn area cell.place → Covers claim.plan claim.reach cell.place → (sides : List (List PieceOf))
    → FitsOne sides text → MeetsAll claim (flat_map (counted_duties area) sides) → IsInside claim cell.place (gosub_row text cell)
one-counted claim area text cell good inside own [] fits met = absurd fits
one-counted claim area text cell good inside own (pieces ∷ more) (inl here) met =
    counted-inside claim area pieces text cell good inside own here (each-front (Meets claim) (counted_duties area pieces) (flat_map (counted_duties area) more) met)
one-counted claim area text cell good inside own (pieces ∷ more) (inr there) met =
    one-counted claim area text cell good inside own more there (each-rest (Meets claim) (counted_duties area pieces) (flat_map (counted_duties area) more) met)

-- the row of `GosubIf`
pub counted_gosub_if-bounded : IsBounded counted_gosub_if_duties gosub_if_row
unfolding gosub_if_row
counted_gosub_if-bounded claim area pieces arguments cell good inside own fits met = by (chosen_side arguments) refl
  where
    set : Bytes
    set = pieces_set pieces

    fits-or : (o : Option (List (List PieceOf))) → sides_in pieces ≡ o → (side : List ℕ) → chosen_side arguments ≡ Some side → FitsOne (sides_or set o) side
    fits-or None from side is =
        inl (fits-any_bytes_of set side (chosen_side-within set arguments side (fits-set pieces arguments fits) is))
    fits-or (Some sides) from side is =
        chosen_side-fits pieces arguments side fits sides from is

    by : (o : Option (List ℕ)) → chosen_side arguments ≡ o → IsInside claim cell.place (gosub_if o cell)
    by None is = record { cell = good; next = tt }
    by (Some side) is =
        one-counted claim area side cell good inside own (sides_or set (sides_in pieces)) (fits-or (sides_in pieces) refl side is) met

-- the arguments of a macro
macro-arguments : (claim : Claim) (set : Bytes) (rest : List PieceOf) (text : List ℕ) → Fits rest text → Within set text → MeetsAll claim (inside_duties set (At rest []))
    → AreLocals claim.names (argument_locals 1 (inner_arguments text))
macro-arguments claim set rest [] fits within met = tt
macro-arguments claim set rest (b ∷ bs) fits within met = by (are_clean 0 rest) refl met
  where
    by : (clean : Bool) → are_clean 0 rest ≡ clean → MeetsAll claim (if clean then numbered_duties 1 (shapes_of rest) else HoldsAll set ∷ [])
        → AreLocals claim.names (argument_locals 1 (arguments_of (b ∷ bs)))
    by true clean met = locals-of claim 1 (shapes_of rest) (arguments_of (b ∷ bs)) (fits-arguments rest (b ∷ bs) clean fits) met
    by false clean met = locals-all claim set met.0 1 (arguments_of (b ∷ bs)) (arguments-within set (b ∷ bs) within)

any-arguments : (claim : Claim) (set : Bytes) (text : List ℕ) → Within set text → Meets claim (HoldsAll set) → AreLocals claim.names (argument_locals 1 (inner_arguments text))
any-arguments claim set [] within met = tt
any-arguments claim set (b ∷ bs) within met = locals-all claim set met 1 (arguments_of (b ∷ bs)) (arguments-within set (b ∷ bs) within)

module _ (claim : Claim) (area : Area) (cell : CellOf) (good : IsGood claim cell) (inside : IsIn area cell.place) (own : Covers claim.plan claim.reach cell.place) (met : MeetsAll claim (caller_duties area)) where
  -- the locals of a macro
  locals-macro : (arguments : List (List ℕ)) → AreLocals claim.names (argument_locals 1 arguments) → AreLocals claim.names (macro_locals cell.place arguments)
  locals-macro arguments locals =
      each-append (λ (local : Local). Within (claim.names.bytes local.name) local.value) (counted_locals arguments) _ (counted-locals claim arguments met.1.1.1.0 locals) (
        within-more (pieces_set area.exten) _ met.0 cell.place.exten (fits-set area.exten cell.place.exten inside.exten),
        (
          within-more (pieces_set area.context) _ met.1.0 cell.place.context (fits-set area.context cell.place.context inside.context),
          (within-more digits _ met.1.1.0 (decimal cell.place.priority) (within-decimal cell.place.priority), tt),
        ),
      )

  -- the start of a macro
  macro-covers : (pieces : List PieceOf) (name : List ℕ) (place : Place) → Fits pieces name → Meets claim (Leads (macro_area pieces))
      → parts_place claim.plan cell.place (macro_target name) ≡ Some place → Covers claim.plan claim.reach place
  macro-covers pieces name place fits leads found =
      covers-included claim.plan claim.reach (macro_area pieces ∷ []) place (leads, tt)
      (in-target claim.plan cell.place place area ((exactly (codes "macro-") ++ pieces) ∷ exactly (codes "s") ∷ exactly (codes "1") ∷ []) (macro_target name) inside
      (fits-append (exactly (codes "macro-")) pieces (codes "macro-") name (fits-exactly (codes "macro-")) fits, (fits-exactly (codes "s"), (fits-exactly (codes "1"), tt))) found)

  -- a macro that is entered
  macro-inside : (pieces : List PieceOf) (name : List ℕ) (arguments : List (List ℕ)) → Fits pieces (trim name) → Meets claim (Leads (macro_area pieces))
      → AreLocals claim.names (argument_locals 1 arguments) → IsInside claim cell.place (enter_macro cell name arguments)
  macro-inside pieces name arguments fits leads locals = record {
    cell = good-with_call claim cell (macro_locals cell.place arguments) good own (locals-macro arguments locals);
    next = λ place found.
        macro-covers pieces (trim name) place fits leads (found-asked claim.plan (parts_place claim.plan cell.place (macro_target (trim name))) place found);
  }

-- the row of `Macro`
pub macro-bounded : IsBounded macro_duties macro_row
unfolding macro_row cut_outside
macro-bounded claim area pieces arguments cell good inside own fits met =
    by (cut_level 44 0 pieces) (cut_outside 44 arguments) refl (cut-level 44 pieces arguments fits)
    (each-rest (Meets claim) (caller_duties area) (called_macro_duties pieces (cut_level 44 0 pieces)) met)
  where
    set : Bytes
    set = pieces_set pieces

    within : Within set arguments
    within = fits-set pieces arguments fits

    callers : MeetsAll claim (caller_duties area)
    callers = each-front (Meets claim) (caller_duties area) (called_macro_duties pieces (cut_level 44 0 pieces)) met

    any : (name : List ℕ) → Within set name → Fits (any_bytes_of set) (trim name)
    any name is = fits-any_bytes_of set (trim name) (within-trim set name is)

    by : (cutting : CuttingOf) (cut : Option (List ℕ × List ℕ)) → cut_outside 44 arguments ≡ cut → IsCutAs cutting cut → MeetsAll claim (called_macro_duties pieces cutting)
        → IsInside claim cell.place (macro_by cell arguments cut)
    by Nowhere (Some cut) from are met = absurd cc
    by Nowhere None from are met =
        macro-inside claim area cell good inside own callers (without_end_blanks pieces) arguments [] (fits-without_end_blanks pieces arguments fits) met.0 tt
    by Unsure None from are met = macro-inside claim area cell good inside own callers (any_bytes_of set) arguments [] (any arguments within) met.0 tt
    by Unsure (Some cut) from are met =
        let parts = cut-within set 44 arguments [] cut.0 cut.1 within tt from in
        macro-inside claim area cell good inside own callers (any_bytes_of set) cut.0 (inner_arguments cut.1) (any cut.0 parts.0) met.0
        (any-arguments claim set cut.1 parts.1 met.1.0)
    by (At name rest) None from are met = absurd are
    by (At name rest) (Some cut) from are met =
        let parts = cut-within set 44 arguments [] cut.0 cut.1 within tt from in
        macro-inside claim area cell good inside own callers (without_end_blanks name) cut.0 (inner_arguments cut.1) (fits-without_end_blanks name cut.0 are.0) met.0
        (macro-arguments claim set rest cut.1 are.1 parts.1 met.1)
