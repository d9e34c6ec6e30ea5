-- A list of applications, each of which is found by the number of applications before it.
use Rattle.std.specs.Prelude.{◌≡◌, ℕ, zero, suc, List, [], ◌∷◌, Option, Some, None, if◌then◌else◌}
use Rattle.dp_conf.specs.Words.{same_word}
use Rattle.dp_app.specs.Rows.{Row, Rows}

-- an application in a list: its printed name, and its row
pub record Listed : Type 0 where
  pub title : List ℕ
  pub meaning : Row

-- a list with one application before the others
abbrev pub with_listed : List ℕ → Row → List Listed → List Listed
with_listed title meaning listed = (record { title = title; meaning = meaning }) ∷ listed

-- the row of an application, if it has the name
abbrev pub row_if_named : List ℕ → Row → List ℕ → Option Row
row_if_named title meaning name = if same_word name title then Some meaning else None

-- the row of the application after this many others, if it has the name
abbrev pub row_at : List Listed → ℕ → List ℕ → Option Row
row_at [] place name = None
row_at (a ∷ rest) zero name = row_if_named a.title a.meaning name
row_at (a ∷ rest) (suc place) name = row_at rest place name

-- each application in the list has the row that the table has for its name
abbrev pub AreOfTable : Rows → List Listed → Type 0
AreOfTable rows [] = Unit {0}
AreOfTable rows (a ∷ rest) = (rows a.title ≡ Some a.meaning) × AreOfTable rows rest
