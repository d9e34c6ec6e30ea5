-- What a table knows of what its applications would do.
use Rattle.std.specs.Prelude.{◌≡◌, ℕ, Bool, true, false, List, [], Some}
use Rattle.dp_vars.specs.Sights.{Sight}
use Rattle.dp_app.specs.Cells.{CellOf}
use Rattle.dp_app.specs.Rows.{Row, Rows}

-- whether the application with a name depends on its arguments, and what it would need, with these arguments and for what a channel sees,
-- that is not known; nothing if everything is
pub record Knowledge : Type 0 where
  pub looks : List ℕ → Bool
  pub asks : Sight → List ℕ → List ℕ → List ℕ

-- each application depends on its arguments, and needs nothing that is not known
abbrev pub asks_nothing : Knowledge
asks_nothing = record { looks = λ name. true; asks = λ sight name arguments. [] }

-- an application that does not depend on its arguments has the same effect with any arguments
abbrev pub Overlooks : (List ℕ → Bool) → Rows → Type 0
Overlooks looks rows =
    (name : List ℕ) (row : Row) → rows name ≡ Some row → looks name ≡ false → (first second : List ℕ) (cell : CellOf)
    → row first cell ≡ row second cell

true_is_false : true ≡ false → ⊥
true_is_false e = cc

-- if each application depends on its arguments, none overlooks anything
pub all_look : (rows : Rows) → Overlooks asks_nothing.looks rows
all_look rows name row there looks first second cell = absurd (true_is_false looks)
