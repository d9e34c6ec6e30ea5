-- An application that is run by its number is the one that the table has of its name.
use Rattle.std.proofs.Common.{◌≡◌, ℕ, zero, suc, Bool, true, false, List, [], ◌∷◌, Option, Some, None, if◌then◌else◌, refl, ap, sym, ◌∙◌}
use Rattle.std.proofs.lemmas.Option.{none-some}
use Rattle.dp_conf.specs.Words.{same_word}
use Rattle.dp_app.specs.Cells.{CellOf}
use Rattle.dp_app.specs.Lawful.{IsBlind}
use Rattle.dp_app.specs.Listed.{Listed, AreOfTable, row_at}
use Rattle.dp_app.specs.Rows.{Row, Rows, after_dispatch}
use Rattle.dp_app.specs.declared.moves.Move.{Move}
use Rattle.dp_app.specs.declared.touch.Touch.{Touch}
use Rattle.dp_table.specs.Standard.{standard_blind, standard_rows, standard_table, standard_touches}

-- where an application of a list has the name, its row is that of the table
pub row_there : (touches : List ℕ → Touch) (rows : Rows) → IsBlind touches rows → (listed : List Listed) → AreOfTable rows listed
    → (place : ℕ) (name : List ℕ) (row : Row) → row_at listed place name ≡ Some row → rows name ≡ Some row
row_there touches rows blind [] are place name row h = absurd (none-some row h)
row_there touches rows blind (a ∷ rest) are zero name row h = by (same_word name a.title) refl h
  where
    by : (b : Bool) → same_word name a.title ≡ b → (if b then Some a.meaning else None) ≡ Some row → rows name ≡ Some row
    by true same e = sym (blind.row name a.title same) ∙ (are.0 ∙ e)
    by false same e = absurd (none-some row e)
row_there touches rows blind (a ∷ rest) are (suc place) name row h = row_there touches rows blind rest are.1 place name row h

-- each application of this program's list stands in the table under its own name
standard_listed : AreOfTable standard_rows standard_table.listed
unfolding standard_table
standard_listed = (refl, (refl, (refl, (refl, (refl, (refl, (refl, (refl, (refl, (refl, (refl, (refl, (refl, (refl, (refl, (refl, (refl, (refl, (refl, (refl, (refl, tt)))))))))))))))))))))

-- what was run by a number is what the table runs
pub ran_first : (place : ℕ) (name arguments : List ℕ) (cell after : CellOf) (going : Move)
    → after_dispatch (row_at standard_table.listed place name) arguments cell ≡ (after, Some going)
    → after_dispatch (standard_rows name) arguments cell ≡ (after, Some going)
ran_first place name arguments cell after going =
    by (row_at standard_table.listed place name)
    (row_there standard_touches standard_rows standard_blind standard_table.listed standard_listed place name)
  where
    by : (o : Option Row) → ((row : Row) → o ≡ Some row → standard_rows name ≡ Some row) → after_dispatch o arguments cell ≡ (after, Some going)
        → after_dispatch (standard_rows name) arguments cell ≡ (after, Some going)
    by None there e = absurd (none-some going (ap (λ p. p.1) e))
    by (Some row) there e = ap (λ o. after_dispatch o arguments cell) (there row refl) ∙ e
