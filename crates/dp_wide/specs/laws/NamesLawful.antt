-- Tables with rows for further names keep the laws, and ignore case if their names do.
use Rattle.std.specs.Prelude.{◌≡◌, ℕ, Bool, true, false, List, Option, Some, map, nat_eq, if◌then◌else◌}
use Rattle.std.specs.Char.{to_ascii_lowercase}
use Rattle.std.specs.Cmp.Lexicographic.{bytes_decides, pointwise}
use Rattle.std.specs.List.{list_any}
use Rattle.std.proofs.Common.{ap, subst, sym, ◌∙◌}
use Rattle.std.proofs.lemmas.Option.{same_Some}
use Rattle.dp_conf.specs.Words.{same_word}
use Rattle.dp_app.specs.Cells.{CellOf}
use Rattle.dp_app.specs.Knowledge.{Knowledge, Overlooks}
use Rattle.dp_app.specs.Lawful.{IsBlind, IsLawful, IsLawfulRow}
use Rattle.dp_app.specs.Rows.{Row, Rows}
use Rattle.dp_app.specs.declared.touch.Touch.{Touch}
use Rattle.dp_wide.specs.Names.{is_word_of, with_named, with_named_knowledge, with_named_touch}

-- a lawful row is the row that is found, with its touch
lawful_by : (b : Bool) (touch : Touch) (meaning : Row) (touches : Touch) (found : Option Row) (row : Row) → IsLawfulRow touch meaning
    → ((r : Row) → found ≡ Some r → IsLawfulRow touches r) → (if b then Some meaning else found) ≡ Some row
    → IsLawfulRow (if b then touch else touches) row
lawful_by true touch meaning touches found row lawful_row lawful h = subst (λ r. IsLawfulRow touch r) (same_Some meaning row h) lawful_row
lawful_by false touch meaning touches found row lawful_row lawful h = lawful row h

-- a lawful table with more rows is lawful if each of these rows is lawful with the touch
pub with_named_lawful : (is_named : List ℕ → Bool) (touch : Touch) (row_of : List ℕ → Row) (touches : List ℕ → Touch) (rows : Rows)
    → ((name : List ℕ) → IsLawfulRow touch (row_of name)) → IsLawful touches rows
    → IsLawful (with_named_touch is_named touch touches) (with_named is_named row_of rows)
with_named_lawful is_named touch row_of touches rows lawful_row lawful name row h =
    lawful_by (is_named name) touch (row_of name) (touches name) (rows name) row (lawful_row name) (lawful name) h

-- a row does the same with any arguments
abbrev DoesSame : Row → Type 0
DoesSame row = (first second : List ℕ) (cell : CellOf) → row first cell ≡ row second cell

overlooked_by : (b : Bool) (meaning : Row) (looks others : Bool) (found : Option Row) (row : Row) → (looks ≡ false → DoesSame meaning)
    → ((r : Row) → found ≡ Some r → others ≡ false → DoesSame r) → (if b then Some meaning else found) ≡ Some row
    → (if b then looks else others) ≡ false → DoesSame row
overlooked_by true meaning looks others found row same rest there h = subst (λ r. DoesSame r) (same_Some meaning row there) (same h)
overlooked_by false meaning looks others found row same rest there h = rest row there h

-- an application of such a table that does not look at its arguments does the same with any of them
pub with_named_overlooks : (is_named looks : List ℕ → Bool) (row_of : List ℕ → Row) (knowledge : Knowledge) (rows : Rows)
    → ((name : List ℕ) → looks name ≡ false → (first second : List ℕ) (cell : CellOf) → row_of name first cell ≡ row_of name second cell)
    → Overlooks knowledge.looks rows → Overlooks (with_named_knowledge is_named looks knowledge).looks (with_named is_named row_of rows)
with_named_overlooks is_named looks row_of knowledge rows same overlooks name row there h =
    overlooked_by (is_named name) (row_of name) (looks name) (knowledge.looks name) (rows name) row (same name) (overlooks name) there h

-- what depends only on the lower-case letters of a name is the same for each of its spellings
pub lower_case_decides : {X : Type 0} (of_lower : List ℕ → X) (name spelling : List ℕ) → same_word name spelling ≡ true
    → of_lower (map to_ascii_lowercase spelling) ≡ of_lower (map to_ascii_lowercase name)
lower_case_decides of_lower name spelling same =
    ap of_lower (sym ((bytes_decides (map to_ascii_lowercase name) (map to_ascii_lowercase spelling)).0 same))

-- a word of a list is in the list in each of its spellings
pub is_word_of-spelled : (words : List (List ℕ)) (name spelling : List ℕ) → same_word name spelling ≡ true
    → is_word_of words spelling ≡ is_word_of words name
is_word_of-spelled words name spelling same =
    lower_case_decides (λ lower. list_any (λ word. pointwise nat_eq lower (map to_ascii_lowercase word)) words) name spelling same

-- a blind table with more rows is blind if the names and their rows ignore case
pub with_named_blind : (is_named : List ℕ → Bool) (touch : Touch) (row_of : List ℕ → Row) (touches : List ℕ → Touch) (rows : Rows)
    → ((name spelling : List ℕ) → same_word name spelling ≡ true → is_named spelling ≡ is_named name)
    → ((name spelling : List ℕ) → same_word name spelling ≡ true → row_of spelling ≡ row_of name)
    → IsBlind touches rows → IsBlind (with_named_touch is_named touch touches) (with_named is_named row_of rows)
with_named_blind is_named touch row_of touches rows names_blind rows_blind blind = record {
  row = λ name spelling same.
      ap (λ b. if◌then◌else◌ {A = Option Row} b (Some (row_of spelling)) (rows spelling)) (names_blind name spelling same)
      ∙ ap (λ row. if◌then◌else◌ {A = Option Row} (is_named name) (Some row) (rows spelling)) (rows_blind name spelling same)
      ∙ ap (λ found. if◌then◌else◌ {A = Option Row} (is_named name) (Some (row_of name)) found) (blind.row name spelling same);
  touch = λ name spelling same.
      ap (λ b. if◌then◌else◌ {A = Touch} b touch (touches spelling)) (names_blind name spelling same)
      ∙ ap (λ found. if◌then◌else◌ {A = Touch} (is_named name) touch found) (blind.touch name spelling same);
}
