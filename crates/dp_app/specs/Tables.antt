-- Tables put together from applications.
use Rattle.std.specs.Prelude.{◌≡◌, ℕ, Bool, true, false, List, Option, Some, None, if◌then◌else◌, map, nat_eq, refl}
use Rattle.std.specs.Cmp.Lexicographic.{bytes_decides, pointwise}
use Rattle.std.specs.Char.{to_ascii_lowercase}
use Rattle.std.proofs.Common.{ap, subst, sym, ◌∙◌}
use Rattle.std.proofs.lemmas.Option.{none-some, same_Some}
use Rattle.dp_conf.specs.Words.{same_word}
use Rattle.dp_app.specs.Lawful.{IsBlind, IsLawful, IsLawfulRow}
use Rattle.dp_app.specs.Rows.{Meanings, Row, Rows, with_standard_functions}
use Rattle.dp_app.specs.declared.touch.Touch.{Touch}

-- the table without names
abbrev pub no_rows : Rows
no_rows name = None

-- the same with the functions of this program
abbrev pub no_meanings : Meanings
no_meanings = with_standard_functions no_rows

-- the touch of a name that the table lacks
abbrev pub no_touch : List ℕ → Touch
no_touch name = record { variables = false; frames = false; globals = false; caller = false; members = false; waiting = false }

-- a table with one more application, found by its name in any ASCII case
abbrev pub with_row : List ℕ → Row → Rows → Rows
with_row title meaning rows name = if same_word name title then Some meaning else rows name

-- the touches of such a table
abbrev pub with_touch : List ℕ → Touch → (List ℕ → Touch) → List ℕ → Touch
with_touch title touch touches name = if same_word name title then touch else touches name

-- the table without names is lawful
pub no_rows_lawful : IsLawful no_touch no_rows
no_rows_lawful name row h = absurd (none-some row h)

-- a row is lawful with its touch, whichever of two lawful ones it is
lawful_by : (b : Bool) (touch : Touch) (meaning : Row) (touches : Touch) (rows : Option Row) (row : Row) → IsLawfulRow touch meaning →
    ((r : Row) → rows ≡ Some r → IsLawfulRow touches r) → (if b then Some meaning else rows) ≡ Some row → IsLawfulRow (if b then touch else touches) row
lawful_by true touch meaning touches rows row lawful_row lawful h = subst (λ r. IsLawfulRow touch r) (same_Some meaning row h) lawful_row
lawful_by false touch meaning touches rows row lawful_row lawful h = lawful row h

-- a lawful table with one more lawful application is lawful
pub with_row_lawful : (title : List ℕ) (touch : Touch) (meaning : Row) (touches : List ℕ → Touch) (rows : Rows) →
    IsLawfulRow touch meaning → IsLawful touches rows → IsLawful (with_touch title touch touches) (with_row title meaning rows)
with_row_lawful title touch meaning touches rows lawful_row lawful name row h =
    lawful_by (same_word name title) touch meaning (touches name) (rows name) row lawful_row (lawful name) h

-- the table without names does not distinguish case
pub no_rows_blind : IsBlind no_touch no_rows
no_rows_blind = record {
  row = λ name spelling same. refl;
  touch = λ name spelling same. refl;
}

-- two spellings of a word are the same in lower case, and so one of them equals a third word exactly if the other does
spelled_same : (name spelling title : List ℕ) → same_word name spelling ≡ true → same_word spelling title ≡ same_word name title
spelled_same name spelling title same =
    ap (λ lower. pointwise nat_eq lower (map to_ascii_lowercase title))
    (sym ((bytes_decides (map to_ascii_lowercase name) (map to_ascii_lowercase spelling)).0 same))

-- one more application keeps a table from distinguishing case
pub with_row_blind : (title : List ℕ) (touch : Touch) (meaning : Row) (touches : List ℕ → Touch) (rows : Rows) →
    IsBlind touches rows → IsBlind (with_touch title touch touches) (with_row title meaning rows)
with_row_blind title touch meaning touches rows blind = record {
  row = λ name spelling same.
      ap (λ b. if◌then◌else◌ {A = Option Row} b (Some meaning) (rows spelling)) (spelled_same name spelling title same)
      ∙ ap (λ found. if◌then◌else◌ {A = Option Row} (same_word name title) (Some meaning) found) (blind.row name spelling same);
  touch = λ name spelling same.
      ap (λ b. if◌then◌else◌ {A = Touch} b touch (touches spelling)) (spelled_same name spelling title same)
      ∙ ap (λ found. if◌then◌else◌ {A = Touch} (same_word name title) touch found) (blind.touch name spelling same);
}
