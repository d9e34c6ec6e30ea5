-- The options of an application with known arguments, after the Asterisk documentation's pages on `Dial`, `Queue` and `Page`, and where those go
-- that run something. Another channel runs it, and stands where the call does.
use Rattle.std.specs.Prelude.{◌≡◌, ◌≢◌, ℕ, Bool, true, ◌||◌, ◌==◌, List, [], ◌∷◌, ◌++◌, map, codes, if◌then◌else◌}
use Rattle.std.specs.Str.{byte}
use Rattle.dp_app.specs.Cells.{CellOf}
use Rattle.dp_app.specs.declared.place.Place.{Place}
use Rattle.dp_conf.specs.Blanks.{trim}
use Rattle.dp_conf.specs.Levels.{cut_outside}
use Rattle.dp_pieces.specs.Pieces.{Fits, PieceOf}
use Rattle.dp_reach.specs.Areas.{Area, Covers, IsIn}
use Rattle.dp_reach.specs.Bounds.{Duties, MeetsAll}
use Rattle.dp_reach.specs.Holding.{Claim, IsGood, IsInside}
use Rattle.dp_wide.specs.Macros.{macro_row}
use Rattle.dp_wide.specs.Subroutines.{gosub_row}
use Rattle.dp_wide_duties.specs.ExchangePlaces.{StandsAt, argument_text, before_cut}

-- a text with a comma for each `^`
abbrev pub commas : List ℕ → List ℕ
commas text = map (λ b. if b == byte "^" then byte "," else b) text

-- an option has a letter, and between parentheses a text, which may lack its end
pub record IsOption (options : List ℕ) (letter : ℕ) (text : List ℕ) : Type 0 where
  pub before : List ℕ
  pub rest : List ℕ
  pub whole : options ≡ before ++ letter ∷ byte "(" ∷ rest
  pub inside : text ≡ commas (before_cut rest (cut_outside (byte ")") rest))

-- `b`, `B`, `F` and `G` name a place and arguments, as `Gosub` does
abbrev pub names_place : ℕ → Bool
names_place letter = letter == byte "b" || (letter == byte "B" || (letter == byte "F" || letter == byte "G"))

-- what runs a channel that stands where the call does, given an option: it goes where `Gosub` would lead it for a place, where `Macro` would for
-- `M`, and to `s` in the context before the first comma for `U`
pub record RunsOptions (claim : Claim) (options : List ℕ) (cell : CellOf) : Type 0 where
  pub places : (letter : ℕ) (text : List ℕ) → IsOption options letter text → names_place letter ≡ true → IsInside claim cell.place (gosub_row text cell)
  pub macros : (text : List ℕ) → IsOption options (byte "M") text → IsInside claim cell.place (macro_row text cell)
  pub routines : (text : List ℕ) → IsOption options (byte "U") text → (place : Place)
      → StandsAt (trim (before_cut text (cut_outside (byte ",") text))) (codes "s") place → Covers claim.plan claim.reach place

-- what runs a channel that stands where the call does, given the macro and the subroutine that the member of a queue runs; an empty text names none
pub record RunsMember (claim : Claim) (macro routine : List ℕ) (cell : CellOf) : Type 0 where
  pub macros : macro ≢ [] → IsInside claim cell.place (macro_row (commas macro) cell)
  pub routines : routine ≢ [] → (place : Place)
      → StandsAt (trim (before_cut (commas routine) (cut_outside (byte ",") (commas routine)))) (codes "s") place → Covers claim.plan claim.reach place

-- what meets these duties holds for whatever options run, if the pieces fit them
abbrev pub CoversOptions : Duties → Type 0
CoversOptions duties = (claim : Claim) (area : Area) (pieces : List PieceOf) (options : List ℕ) (cell : CellOf) → IsGood claim cell → IsIn area cell.place
    → Covers claim.plan claim.reach cell.place → Fits pieces options → MeetsAll claim (duties area pieces) → RunsOptions claim options cell

-- the same for the duties of an application whose options are the argument with a number
abbrev pub CoversOptionsAt : ℕ → Duties → Type 0
CoversOptionsAt number duties = (claim : Claim) (area : Area) (pieces : List PieceOf) (arguments : List ℕ) (cell : CellOf) → IsGood claim cell → IsIn area cell.place
    → Covers claim.plan claim.reach cell.place → Fits pieces arguments → MeetsAll claim (duties area pieces)
    → RunsOptions claim (argument_text number arguments) cell

-- the same for what a member runs, which the arguments with these numbers name
abbrev pub CoversMemberAt : ℕ → ℕ → Duties → Type 0
CoversMemberAt macro routine duties = (claim : Claim) (area : Area) (pieces : List PieceOf) (arguments : List ℕ) (cell : CellOf) → IsGood claim cell → IsIn area cell.place
    → Covers claim.plan claim.reach cell.place → Fits pieces arguments → MeetsAll claim (duties area pieces)
    → RunsMember claim (argument_text macro arguments) (argument_text routine arguments) cell
