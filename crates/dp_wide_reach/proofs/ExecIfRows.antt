-- The row of `ExecIf` stays inside if what it owes is met.
use Rattle.std.proofs.Common.{◌≡◌, inl, inr, ℕ, zero, suc, ◌==◌, Bool, true, false, List, [], ◌∷◌, Option, Some, None, refl, sym, ap, ◌∙◌, subst, if◌then◌else◌, unwrap_or, is_some}
use Rattle.std.proofs.lemmas.Option.{same_Some}
use Rattle.std.specs.List.{flat_map}
use Rattle.std.specs.Option.{option_map, option_map_or}
use Rattle.dp_conf.proofs.TextLemmas.{Avoids, cut_once-nowhere, each-front, each-rest}
use Rattle.dp_conf.specs.Blanks.{trim}
use Rattle.dp_conf.specs.Cut.{before_last, cut_once}
use Rattle.dp_conf.specs.Levels.{cut_outside}
use Rattle.dp_app.specs.Cells.{CellOf}
use Rattle.dp_app.specs.Rows.{Row, Rows}
use Rattle.dp_app.specs.Tables.{with_row}
use Rattle.dp_flow.specs.Conditions.{chosen_by, chosen_side, holds, taken_side}
use Rattle.dp_pieces.specs.Cuts.{At, CuttingOf, Nowhere, Unsure, cut_known, cut_last, cut_level, cut_pieces, with_byte}
use Rattle.dp_pieces.specs.Fitting.{IsCutAs, IsCutKnown, IsLast}
use Rattle.dp_pieces.specs.Pieces.{AnyOf, Fits, Known, OneOf, PieceOf, text_known}
use Rattle.dp_pieces.specs.Trimmed.{without_end_blanks}
use Rattle.dp_pieces.proofs.CutLemmas.{cut-level, cut-pieces}
use Rattle.dp_pieces.proofs.FitsLemmas.{fits-nothing, fits-text_known}
use Rattle.dp_pieces.proofs.LastLemmas.{known-fits, last-fits}
use Rattle.dp_pieces.proofs.TrimmedLemmas.{fits-without_end_blanks}
use Rattle.dp_wide.specs.Choices.{called_old, exec_if_application, exec_if_row, exec_if_title, exec_if_within, row_or_end, run_in}
use Rattle.dp_wide.specs.Sides.{called_by, called_side}
use Rattle.dp_reach.specs.Areas.{Area, Covers, IsIn}
use Rattle.dp_reach.specs.Bounds.{AreBounded, Duties, IsBounded, Meets, MeetsAll}
use Rattle.dp_reach.specs.Choices.{sides_by}
use Rattle.dp_reach.specs.Holding.{Claim, IsGood, IsInside}
use Rattle.dp_reach.specs.Standard.{with_duties}
use Rattle.dp_reach.proofs.StandardRows.{row-bounded}
use Rattle.dp_reach.proofs.TargetLemmas.{FitsOne}
use Rattle.dp_wide_reach.specs.Choices.{arguments_by, bare_side_duties, call_duties_by, choice_duties, chosen_duties, exec_if_duties, exec_if_duties_by, known_call, known_call_by, side_duties}
use Rattle.dp_wide_reach.proofs.SideRows.{taken_side-fits, taken_side-present}

-- the application that a text names has the known name, and its arguments fit the known pieces
record IsCalled (call : List ℕ × List PieceOf) (text : List ℕ × List ℕ) : Type 0 where
  name : text.0 ≡ call.0
  fits : Fits call.1 text.1

-- a text that is all known and not known to have such a byte does not have it
whole-avoids : (mark : ℕ) (pieces : List PieceOf) (name : List ℕ) → cut_known mark pieces ≡ None → text_known pieces ≡ Some name → Avoids mark name
whole-avoids mark [] name none is = subst (Avoids mark) (let e : [] ≡ name = cc in e) tt
whole-avoids mark (OneOf set ∷ pieces) name none is = absurd cc
whole-avoids mark (AnyOf set ∷ pieces) name none is = absurd cc
whole-avoids mark (Known b ∷ pieces) name none is =
    by (b == mark) refl (text_known pieces) refl (λ rest from known. whole-avoids mark pieces rest from known) none is
  where
    first : (o : Option (List ℕ × List PieceOf)) → with_byte b o ≡ None → o ≡ None
    first None same = refl
    first (Some c) same = absurd cc

    by : (at : Bool) → (b == mark) ≡ at → (o : Option (List ℕ)) → text_known pieces ≡ o
        → ((rest : List ℕ) → cut_known mark pieces ≡ None → text_known pieces ≡ Some rest → Avoids mark rest)
        → (if at then Some ([], pieces) else with_byte b (cut_known mark pieces)) ≡ None → option_map (λ bytes. b ∷ bytes) o ≡ Some name → Avoids mark name
    by true other o from more none is = absurd cc
    by false other None from more none is = absurd cc
    by false other (Some rest) from more none is =
        subst (Avoids mark) (let e : b ∷ rest ≡ name = cc in e) (other, more rest (first (cut_known mark pieces) none) from)

-- the application that a text with known pieces names
known-call : (pieces : List PieceOf) (text : List ℕ) → Fits pieces text → (call : List ℕ × List PieceOf) → known_call pieces ≡ Some call → IsCalled call (called_by text (cut_once 40 text))
known-call pieces text fits call is = by (cut_known 40 pieces) refl (known-fits 40 pieces text fits) is
  where
    arguments : (name : List ℕ) (inside : List PieceOf) (after : List ℕ) → Fits inside after → (cutting : CuttingOf) → IsLast cutting (before_last 41 after)
        → option_map (λ ps. (name, ps)) (arguments_by inside cutting) ≡ Some call → IsCalled call (name, unwrap_or (before_last 41 after) after)
    arguments name inside after fits Nowhere last same =
        subst (λ c. IsCalled c (name, unwrap_or (before_last 41 after) after)) (same_Some (name, inside) call same)
        (record { name = refl; fits = subst (λ o. Fits inside (unwrap_or o after)) (sym last) fits })
    arguments name inside after fits Unsure last same = absurd cc
    arguments name inside after fits (At front rest) last same = by (before_last 41 after) last
      where
        by : (o : Option (List ℕ)) → IsLast (At front rest) o → IsCalled call (name, unwrap_or o after)
        by None last = absurd last
        by (Some text) last = subst (λ c. IsCalled c (name, text)) (same_Some (name, front) call same) (record { name = refl; fits = last })

    by : (o : Option (List ℕ × List PieceOf)) → cut_known 40 pieces ≡ o → IsCutKnown 40 o text → known_call_by pieces o ≡ Some call → IsCalled call (called_by text (cut_once 40 text))
    by None from known same = all (text_known pieces) refl same
      where
        all : (o : Option (List ℕ)) → text_known pieces ≡ o → option_map (λ name. (name, [])) o ≡ Some call → IsCalled call (called_by text (cut_once 40 text))
        all None none same = absurd cc
        all (Some name) whole same =
            subst (λ o. IsCalled call (called_by text o)) (sym (ap (cut_once 40) (fits-text_known pieces text name whole fits) ∙ cut_once-nowhere 40 name (whole-avoids 40 pieces name from whole)))
            (subst (λ c. IsCalled c (text, [])) (same_Some (name, []) call same) (record { name = fits-text_known pieces text name whole fits; fits = fits-nothing }))
    by (Some cut) from known same =
        subst (λ o. IsCalled call (called_by text o)) (sym known.1)
        (arguments (trim cut.0) cut.1 known.0 known.2 (cut_last 41 cut.1) (last-fits 41 cut.1 known.0 known.2) same)

-- a condition without a comma makes no old form
comma-none : (condition : List PieceOf) (text : List ℕ) → Fits condition text → cut_level 44 0 condition ≡ Nowhere → cut_outside 44 text ≡ None
comma-none condition text fits none = subst (λ c. IsCutAs c (cut_outside 44 text)) none (cut-level 44 condition text fits)

-- what holds of a call of an application, if there is one
abbrev pub OfCall : (List ℕ → List ℕ → Type 0) → Option (List ℕ × List ℕ) → Type 0
OfCall holds None = Unit {0}
OfCall holds (Some call) = holds call.0 call.1

-- what holds of each application if its duties are met holds of the one that an `ExecIf` runs
module _ (duties : List ℕ → Duties) (claim : Claim) (area : Area) (Held : List ℕ → List ℕ → Type 0)
    (held : (name : List ℕ) (pieces : List PieceOf) (arguments : List ℕ) → Fits pieces arguments → MeetsAll claim (duties name area pieces) → Held name arguments) where
  -- a side that has more than blanks
  bare-held : (pieces : List PieceOf) (side : List ℕ) → Fits pieces (trim side) → MeetsAll claim (call_duties_by duties area (known_call pieces))
      → OfCall Held (Some (called_side side))
  bare-held pieces side fits met = by (known_call pieces) refl met
    where
      by : (o : Option (List ℕ × List PieceOf)) → known_call pieces ≡ o → MeetsAll claim (call_duties_by duties area o) → OfCall Held (Some (called_side side))
      by None from met = absurd met.0
      by (Some call) from met =
          let called = known-call pieces (trim side) fits call from in
          subst (λ name. Held name (called_side side).1) (sym called.name) (held call.0 call.1 (called_side side).1 called.fits met)

  side-held : (pieces : List PieceOf) (side : List ℕ) → Fits pieces side → (trim side ≡ [] → ⊥) → MeetsAll claim (side_duties duties area pieces)
      → OfCall Held (Some (called_side side))
  unfolding Fits
  side-held pieces side fits present met = by (without_end_blanks pieces) (fits-without_end_blanks pieces side fits) met
    where
      by : (bare : List PieceOf) → Fits bare (trim side) → MeetsAll claim (bare_side_duties duties area bare) → OfCall Held (Some (called_side side))
      by [] fits met = absurd (present fits)
      by (piece ∷ bare) fits met = bare-held (piece ∷ bare) side fits met

  one-held : (sides : List (List PieceOf)) (side : List ℕ) → FitsOne sides side → (trim side ≡ [] → ⊥) → MeetsAll claim (flat_map (side_duties duties area) sides)
      → OfCall Held (Some (called_side side))
  one-held [] side fits present met = absurd fits
  one-held (pieces ∷ more) side (inl here) present met =
      side-held pieces side here present (each-front (Meets claim) (side_duties duties area pieces) (flat_map (side_duties duties area) more) met)
  one-held (pieces ∷ more) side (inr there) present met =
      one-held more side there present (each-rest (Meets claim) (side_duties duties area pieces) (flat_map (side_duties duties area) more) met)

  taken-held : (rest : List PieceOf) (text : List ℕ) (taken : Bool) → Fits rest text → MeetsAll claim (choice_duties duties area (sides_by rest (cut_level 58 0 rest)))
      → OfCall Held (option_map called_side (taken_side taken text))
  taken-held rest text taken fits met = by (sides_by rest (cut_level 58 0 rest)) refl met
    where
      by : (o : Option (List (List PieceOf))) → sides_by rest (cut_level 58 0 rest) ≡ o → MeetsAll claim (choice_duties duties area o)
          → OfCall Held (option_map called_side (taken_side taken text))
      by None from met = absurd met.0
      by (Some sides) from met = side (taken_side taken text) refl
        where
          side : (o : Option (List ℕ)) → taken_side taken text ≡ o → OfCall Held (option_map called_side o)
          side None is = tt
          side (Some result) is = one-held sides result (taken_side-fits rest text fits sides from taken result is) (taken_side-present text taken result is) met

  pub exec_if-held : (pieces : List PieceOf) (arguments : List ℕ) → Fits pieces arguments → MeetsAll claim (exec_if_duties_by duties area (cut_pieces 63 pieces))
      → OfCall Held (exec_if_application arguments)
  unfolding exec_if_application chosen_side
  exec_if-held pieces arguments fits met = by (cut_pieces 63 pieces) (cut_once 63 arguments) (cut-pieces 63 pieces arguments fits) met
    where
      by : (cutting : CuttingOf) (cut : Option (List ℕ × List ℕ)) → IsCutAs cutting cut → MeetsAll claim (exec_if_duties_by duties area cutting)
          → OfCall Held (if option_map_or (λ cut. is_some (cut_outside 44 cut.0)) cut true then called_old (cut_outside 44 arguments)
          else option_map called_side (chosen_by cut))
      by Nowhere cut are met = absurd met.0
      by Unsure cut are met = absurd met.0
      by (At condition rest) None are met = absurd are
      by (At condition rest) (Some cut) are met = comma (cut_level 44 0 condition) refl met
        where
          comma : (cutting : CuttingOf) → cut_level 44 0 condition ≡ cutting → MeetsAll claim (chosen_duties duties area rest cutting)
              → OfCall Held (if is_some (cut_outside 44 cut.0) then called_old (cut_outside 44 arguments) else option_map called_side (taken_side (holds cut.0) cut.1))
          comma Unsure from met = absurd met.0
          comma (At name after) from met = absurd met.0
          comma Nowhere from met =
              subst (λ o. OfCall Held (if is_some o then called_old (cut_outside 44 arguments) else option_map called_side (taken_side (holds cut.0) cut.1)))
              (sym (comma-none condition cut.0 are.0 from)) (taken-held rest cut.1 (holds cut.0) are.1 met)

-- an application that a table runs, or the end of the call
called-inside : (duties : List ℕ → Duties) (rows : Rows) → AreBounded duties rows → (claim : Claim) (area : Area) (cell : CellOf) → IsGood claim cell → IsIn area cell.place
    → Covers claim.plan claim.reach cell.place → (name : List ℕ) (pieces : List PieceOf) (arguments : List ℕ) → Fits pieces arguments
    → MeetsAll claim (duties name area pieces) → IsInside claim cell.place (row_or_end (rows name) arguments cell)
called-inside duties rows bounded claim area cell good inside own name pieces arguments fits met = by (rows name) refl
  where
    by : (o : Option Row) → rows name ≡ o → IsInside claim cell.place (row_or_end o arguments cell)
    by None is = record { cell = good; next = tt }
    by (Some row) is = bounded name row is claim area pieces arguments cell good inside own fits met

exec_if-inside : (duties : List ℕ → Duties) (rows : Rows) → AreBounded duties rows → (claim : Claim) (area : Area) (cell : CellOf) → IsGood claim cell → IsIn area cell.place
    → Covers claim.plan claim.reach cell.place → (pieces : List PieceOf) (arguments : List ℕ) → Fits pieces arguments
    → MeetsAll claim (exec_if_duties_by duties area (cut_pieces 63 pieces)) → IsInside claim cell.place (exec_if_row rows arguments cell)
exec_if-inside duties rows bounded claim area cell good inside own pieces arguments fits met =
    by (exec_if_application arguments)
    (exec_if-held duties claim area (λ name given. IsInside claim cell.place (row_or_end (rows name) given cell))
    (called-inside duties rows bounded claim area cell good inside own) pieces arguments fits met)
  where
    by : (o : Option (List ℕ × List ℕ)) → OfCall (λ name given. IsInside claim cell.place (row_or_end (rows name) given cell)) o
        → IsInside claim cell.place (run_in rows o cell)
    by None is = record { cell = good; next = tt }
    by (Some call) is = is

-- the row of an `ExecIf` over a table
pub exec_if-bounded : (count : ℕ) (duties : List ℕ → Duties) (rows : Rows) → AreBounded duties rows → IsBounded (exec_if_duties count duties) (exec_if_within count rows)
exec_if-bounded zero duties rows bounded claim area pieces arguments cell good inside own fits met = record { cell = good; next = tt }
exec_if-bounded (suc more) duties rows bounded claim area pieces arguments cell good inside own fits met =
    exec_if-inside (with_duties exec_if_title (exec_if_duties more duties) duties) (with_row exec_if_title (exec_if_within more rows) rows)
    (row-bounded exec_if_title _ _ duties rows (exec_if-bounded more duties rows bounded) bounded)
    claim area cell good inside own pieces arguments fits met
