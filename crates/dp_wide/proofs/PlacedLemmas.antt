-- An application that is found by its number, or in a list of names, is the one that the wide table has for its name.
use Rattle.std.proofs.Common.{◌≡◌, ℕ, Bool, true, false, ◌||◌, List, [], ◌∷◌, Option, Some, None, if◌then◌else◌, is_some, refl, ap, sym, ◌∙◌}
use Rattle.std.specs.Prelude.{codes}
use Rattle.std.proofs.lemmas.Option.{none-some}
use Rattle.std.specs.List.{find}
use Rattle.std.specs.Option.{option_map, unwrap_or}
use Rattle.dp_conf.specs.Words.{same_word}
use Rattle.dp_app.specs.Cells.{CellOf}
use Rattle.dp_app.specs.Lawful.{IsBlind}
use Rattle.dp_app.specs.Listed.{Listed, AreOfTable, row_at}
use Rattle.dp_app.specs.Rows.{Row, Rows, after_dispatch, has_row}
use Rattle.dp_app.specs.Tables.{no_rows}
use Rattle.dp_app.specs.declared.moves.Move.{Move}
use Rattle.dp_app.specs.declared.touch.Touch.{Touch}
use Rattle.dp_flow.specs.Plain.{next_row}
use Rattle.dp_table.specs.Standard.{standard_table}
use Rattle.dp_table.proofs.RunLemmas.{row_there}
use Rattle.dp_wide.specs.Going.{going_names, goes_on}
use Rattle.dp_wide.specs.Names.{is_word_of}
use Rattle.dp_wide.specs.Outside.{is_outside, is_read, outside_applications, outside_row, row_outside, statuses_among, with_outside}
use Rattle.dp_wide.specs.Wide.{inner_table, wide_blind, wide_rows, wide_table, wide_touches}
use Rattle.dp_wide.specs.steps.PlacedApplications.{placed_applications, rows_of}
use Rattle.dp_wide.proofs.WordsLemmas.{of_spelling}

false_is_true : false ≡ true → ⊥
false_is_true e = cc

-- an application of a list is found in a table that has each of them
pub found_there : (touches : List ℕ → Touch) (rows : Rows) → IsBlind touches rows → (listed : List Listed) → AreOfTable rows listed
    → (name : List ℕ) (row : Row) → rows_of listed name ≡ Some row → rows name ≡ Some row
found_there touches rows blind [] are name row h = absurd (none-some row h)
found_there touches rows blind (a ∷ rest) are name row h =
    by (same_word name a.title) refl (found_there touches rows blind rest are.1 name row) h
  where
    by : (b : Bool) → same_word name a.title ≡ b → (rows_of rest name ≡ Some row → rows name ≡ Some row)
        → (if b then Some a.meaning else rows_of rest name) ≡ Some row → rows name ≡ Some row
    by true same later e = sym (blind.row name a.title same) ∙ (are.0 ∙ e)
    by false same later e = later e

-- if an application is found in a part of a table, the table has a row for it
has_there : (part whole : Option Row) → ((row : Row) → part ≡ Some row → whole ≡ Some row) → is_some part ≡ true → is_some whole ≡ true
has_there None whole there h = absurd (false_is_true h)
has_there (Some row) whole there h = ap (λ o. is_some o) (there row refl)

-- what was run from a part of a table is what the table runs
pub ran_part : (part whole : Option Row) → ((row : Row) → part ≡ Some row → whole ≡ Some row) → (arguments : List ℕ) (cell after : CellOf) (going : Move)
    → after_dispatch part arguments cell ≡ (after, Some going) → after_dispatch whole arguments cell ≡ (after, Some going)
ran_part None whole there arguments cell after going e = absurd (none-some going (ap (λ p. p.1) e))
ran_part (Some row) whole there arguments cell after going e = ap (λ o. after_dispatch o arguments cell) (there row refl) ∙ e

-- the placed applications are in the table, without `ExecIf` and with it
placed_inner : AreOfTable inner_table.rows placed_applications
unfolding inner_table placed_applications standard_table going_names outside_applications
placed_inner = (refl, (refl, (refl, (refl, (refl, (refl, (refl, (refl, (refl, (refl, (refl, (refl, (refl, (refl, (refl, (refl, (refl, (refl, (refl, (refl, (refl, (refl, (refl, (refl, (refl, (refl, (refl, (refl, (refl, tt)))))))))))))))))))))))))))))

placed_wide : AreOfTable wide_rows placed_applications
unfolding wide_table inner_table placed_applications standard_table going_names outside_applications
placed_wide = (refl, (refl, (refl, (refl, (refl, (refl, (refl, (refl, (refl, (refl, (refl, (refl, (refl, (refl, (refl, (refl, (refl, (refl, (refl, (refl, (refl, (refl, (refl, (refl, (refl, (refl, (refl, (refl, (refl, tt)))))))))))))))))))))))))))))

pub inner_there : (name : List ℕ) (row : Row) → rows_of placed_applications name ≡ Some row → inner_table.rows name ≡ Some row
inner_there = found_there inner_table.touches inner_table.rows inner_table.blind placed_applications placed_inner

pub placed_there : (place : ℕ) (name : List ℕ) (row : Row) → row_at placed_applications place name ≡ Some row → wide_rows name ≡ Some row
placed_there = row_there wide_touches wide_rows wide_blind placed_applications placed_wide

-- the table has each placed application
pub placed_has_inner : (name : List ℕ) → has_row (rows_of placed_applications) name ≡ true → has_row inner_table.rows name ≡ true
placed_has_inner name h = has_there (rows_of placed_applications name) (inner_table.rows name) (inner_there name) h

pub placed_has : (name : List ℕ) → has_row (rows_of placed_applications) name ≡ true → has_row wide_rows name ≡ true
placed_has name h =
    has_there (rows_of placed_applications name) (wide_rows name) (found_there wide_touches wide_rows wide_blind placed_applications placed_wide name) h

-- each of some names has this row in a table
abbrev HaveRow : Rows → Row → List (List ℕ) → Type 0
HaveRow rows row [] = Unit {0}
HaveRow rows row (word ∷ words) = (rows word ≡ Some row) × HaveRow rows row words

-- each name that is one of these words has it
has_row_of : (touches : List ℕ → Touch) (rows : Rows) → IsBlind touches rows → (row : Row) (words : List (List ℕ)) → HaveRow rows row words
    → (name : List ℕ) → is_word_of words name ≡ true → rows name ≡ Some row
has_row_of touches rows blind row [] are name among = absurd (false_is_true among)
has_row_of touches rows blind row (word ∷ words) are name among =
    by (same_word name word) refl (has_row_of touches rows blind row words are.1 name) among
  where
    by : (b : Bool) → same_word name word ≡ b → (is_word_of words name ≡ true → rows name ≡ Some row)
        → (b || is_word_of words name) ≡ true → rows name ≡ Some row
    by true same later e = sym (blind.row name word same) ∙ are.0
    by false same later e = later e

going_inner : HaveRow inner_table.rows next_row going_names
unfolding inner_table standard_table going_names outside_applications
going_inner = (refl, (refl, (refl, (refl, (refl, (refl, (refl, (refl, (refl, (refl, (refl, (refl, (refl, (refl, (refl, (refl, (refl, (refl, (refl, (refl, (refl, (refl, (refl, (refl, (refl, (refl, (refl, (refl, (refl, (refl, (refl, (refl, (refl, (refl, (refl, (refl, (refl, (refl, (refl, (refl, (refl, (refl, (refl, (refl, tt))))))))))))))))))))))))))))))))))))))))))))

going_wide : HaveRow wide_rows next_row going_names
unfolding wide_table inner_table standard_table going_names outside_applications
going_wide = (refl, (refl, (refl, (refl, (refl, (refl, (refl, (refl, (refl, (refl, (refl, (refl, (refl, (refl, (refl, (refl, (refl, (refl, (refl, (refl, (refl, (refl, (refl, (refl, (refl, (refl, (refl, (refl, (refl, (refl, (refl, (refl, (refl, (refl, (refl, (refl, (refl, (refl, (refl, (refl, (refl, (refl, (refl, (refl, tt))))))))))))))))))))))))))))))))))))))))))))

-- a name that goes on does so in the table
pub going_row : (name : List ℕ) → goes_on name ≡ true → wide_rows name ≡ Some next_row
going_row = has_row_of wide_touches wide_rows wide_blind next_row going_names going_wide

pub going_has : (name : List ℕ) → goes_on name ≡ true → has_row inner_table.rows name ≡ true
going_has name among =
    ap (λ o. is_some o) (has_row_of inner_table.touches inner_table.rows inner_table.blind next_row going_names going_inner name among)

-- each of some applications that run outside has its row in a table
abbrev RunOutside : Rows → List (List ℕ × List (List ℕ)) → Type 0
RunOutside rows [] = Unit {0}
RunOutside rows (a ∷ rest) = (rows a.0 ≡ Some (outside_row a.1 (is_read a.0))) × RunOutside rows rest

-- the row of a name, given its statuses among some applications
abbrev row_among : List (List ℕ × List (List ℕ)) → List ℕ → Row
row_among applications name = outside_row (unwrap_or (statuses_among applications name) []) (is_read name)

-- each name that is one of these has its row
runs_among : (touches : List ℕ → Touch) (rows : Rows) → IsBlind touches rows → (applications : List (List ℕ × List (List ℕ)))
    → RunOutside rows applications → (name : List ℕ) → is_some (statuses_among applications name) ≡ true
    → rows name ≡ Some (row_among applications name)
runs_among touches rows blind [] are name among = absurd (false_is_true among)
runs_among touches rows blind (a ∷ rest) are name among =
    by (same_word name a.0) refl (runs_among touches rows blind rest are.1 name) among
  where
    found : Bool → Option (List (List ℕ))
    found b = option_map (λ x. x.1) (if b then Some a else find (λ x. same_word name x.0) rest)

    by : (b : Bool) → same_word name a.0 ≡ b → (is_some (statuses_among rest name) ≡ true → rows name ≡ Some (row_among rest name))
        → is_some (found b) ≡ true → rows name ≡ Some (outside_row (unwrap_or (found b) []) (is_read name))
    by true same later e =
        sym (blind.row name a.0 same) ∙ (are.0 ∙ ap (λ reads. Some (outside_row a.1 reads)) (sym (of_spelling (λ test. test (codes "Read") || test (codes "ReadExten")) name a.0 same)))
    by false same later e = later e

outside_inner : RunOutside inner_table.rows outside_applications
unfolding inner_table standard_table going_names outside_applications
outside_inner = (refl, (refl, (refl, (refl, (refl, (refl, (refl, (refl, (refl, (refl, (refl, (refl, (refl, (refl, (refl, (refl, (refl, (refl, (refl, (refl, (refl, (refl, (refl, (refl, (refl, (refl, (refl, (refl, (refl, (refl, (refl, (refl, (refl, (refl, (refl, (refl, (refl, (refl, (refl, (refl, (refl, (refl, (refl, (refl, (refl, (refl, (refl, (refl, (refl, (refl, (refl, (refl, (refl, (refl, (refl, tt)))))))))))))))))))))))))))))))))))))))))))))))))))))))

outside_wide : RunOutside wide_rows outside_applications
unfolding wide_table inner_table standard_table going_names outside_applications
outside_wide = (refl, (refl, (refl, (refl, (refl, (refl, (refl, (refl, (refl, (refl, (refl, (refl, (refl, (refl, (refl, (refl, (refl, (refl, (refl, (refl, (refl, (refl, (refl, (refl, (refl, (refl, (refl, (refl, (refl, (refl, (refl, (refl, (refl, (refl, (refl, (refl, (refl, (refl, (refl, (refl, (refl, (refl, (refl, (refl, (refl, (refl, (refl, (refl, (refl, (refl, (refl, (refl, (refl, (refl, (refl, tt)))))))))))))))))))))))))))))))))))))))))))))))))))))))

-- a name that runs outside does so in the table
outside_runs : (name : List ℕ) → is_outside name ≡ true → wide_rows name ≡ Some (row_outside name)
outside_runs = runs_among wide_touches wide_rows wide_blind outside_applications outside_wide

pub outside_has : (name : List ℕ) → is_outside name ≡ true → has_row inner_table.rows name ≡ true
outside_has name among =
    ap (λ o. is_some o) (runs_among inner_table.touches inner_table.rows inner_table.blind outside_applications outside_inner name among)

-- the same for the row that the list alone gives a name
pub outside_there : (name : List ℕ) (row : Row) → with_outside no_rows name ≡ Some row → wide_rows name ≡ Some row
outside_there name row h = by (is_outside name) (outside_runs name) h
  where
    by : (b : Bool) → (b ≡ true → wide_rows name ≡ Some (row_outside name)) → (if b then Some (row_outside name) else None) ≡ Some row
        → wide_rows name ≡ Some row
    by true runs e = runs refl ∙ e
    by false runs e = absurd (none-some row e)

-- each of some names has a row in a table
abbrev HaveRows : Rows → List (List ℕ) → Type 0
HaveRows rows [] = Unit {0}
HaveRows rows (word ∷ words) = (has_row rows word ≡ true) × HaveRows rows words

-- each name that is one of these words has one
pub has_of_words : (touches : List ℕ → Touch) (rows : Rows) → IsBlind touches rows → (words : List (List ℕ)) → HaveRows rows words
    → (name : List ℕ) → is_word_of words name ≡ true → has_row rows name ≡ true
has_of_words touches rows blind [] are name among = absurd (false_is_true among)
has_of_words touches rows blind (word ∷ words) are name among =
    by (same_word name word) refl (has_of_words touches rows blind words are.1 name) among
  where
    by : (b : Bool) → same_word name word ≡ b → (is_word_of words name ≡ true → has_row rows name ≡ true)
        → (b || is_word_of words name) ≡ true → has_row rows name ≡ true
    by true same later e = ap (λ o. is_some o) (sym (blind.row name word same)) ∙ are.0
    by false same later e = later e
