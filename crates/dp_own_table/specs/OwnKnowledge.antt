-- What the table by another author knows of its applications.
use Rattle.std.specs.Prelude.{◌≡◌, ℕ, Bool, true, false, not, ◌&&◌, List, [], Some, None, codes, if◌then◌else◌, refl}
use Rattle.std.proofs.Common.{subst}
use Rattle.std.proofs.lemmas.Option.{none-some, same_Some}
use Rattle.dp_conf.specs.Words.{same_text, same_word}
use Rattle.dp_vars.specs.Sights.{Sight}
use Rattle.dp_app.specs.Cells.{CellOf}
use Rattle.dp_app.specs.Knowledge.{Knowledge, Overlooks}
use Rattle.dp_app.specs.Rows.{Row}
use Rattle.dp_own_table.specs.OwnTable.{own_rows, ping_row, stay_row}

-- only `Ping` looks at its arguments
abbrev pub own_looks : List ℕ → Bool
own_looks name = same_word name (codes "Ping")

-- `Ping(?)` asks the variable `PINGS`, while nothing has set it
abbrev pub own_asks : Sight → List ℕ → List ℕ → List ℕ
own_asks sight name arguments =
    if same_word name (codes "Ping") && same_text arguments (codes "?") && not (sight.is_set (codes "PINGS")) then codes "PINGS" else []

-- what the table knows
abbrev pub own_knowledge : Knowledge
own_knowledge = record { looks = own_looks; asks = own_asks }

true_is_false : true ≡ false → ⊥
true_is_false e = cc

own_row_overlooks : (is_ping is_stay : Bool) (row : Row) → (if is_ping then Some ping_row else (if is_stay then Some stay_row else None)) ≡ Some row →
    is_ping ≡ false → (first second : List ℕ) (cell : CellOf) → row first cell ≡ row second cell
own_row_overlooks true is_stay row there looks first second cell = absurd (true_is_false looks)
own_row_overlooks false true row there looks first second cell = subst (λ r. r first cell ≡ r second cell) (same_Some stay_row row there) refl
own_row_overlooks false false row there looks first second cell = absurd (none-some row there)

-- `Stay` does the same whatever its arguments are
pub own_overlooks : Overlooks own_looks (own_rows same_word)
own_overlooks name row there looks first second cell =
    own_row_overlooks (same_word name (codes "Ping")) (same_word name (codes "Stay")) row there looks first second cell
