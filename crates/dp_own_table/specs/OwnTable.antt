-- The rows of two applications that are not this program's, for a table by another author.
use Rattle.std.specs.Prelude.{◌≡◌, ℕ, Bool, true, false, List, Some, None, codes, length, if◌then◌else◌, refl}
use Rattle.std.proofs.Common.{ap, subst}
use Rattle.std.proofs.lemmas.Option.{none-some, same_Some}
use Rattle.dp_conf.specs.Words.{same_text, same_word}
use Rattle.dp_vars.specs.Stores.{set}
use Rattle.dp_app.specs.laws.Keeping.{cell_kept, going_lawful, store_kept}
use Rattle.dp_app.specs.Lawful.{IsBlind, ParksNowhere, IsLawful, IsLawfulRow, MayGo, waiting_after, waiting_lists}
use Rattle.dp_app.specs.Rows.{Row, Rows}
use Rattle.dp_app.specs.laws.StoreKept.{set_kept, with_store_kept}
use Rattle.dp_app.specs.Tables.{no_rows, no_rows_blind, no_touch, with_row, with_row_blind, with_touch}
use Rattle.dp_app.specs.declared.moves.Move.{Move}
use Rattle.dp_app.specs.declared.moves.Move.TheVariants.{Next, Park, Hang}
use Rattle.dp_app.specs.declared.phase.Phase.TheVariants.{Pause}
use Rattle.dp_app.specs.declared.touch.Touch.{Touch}

-- nothing
abbrev pub nothing : Touch
nothing = record { variables = false; frames = false; globals = false; caller = false; members = false; waiting = false }

-- the variables
abbrev pub the_variables : Touch
the_variables = record nothing { variables = true }

-- the row of `Ping`: `P` is set to the arguments, by the rule for setting
abbrev pub ping_row : Row
ping_row arguments cell = record { cell = record cell { store = set cell.store (codes "P") arguments }; next = Next }

-- where a channel goes that would wait: a closing channel does not wait
abbrev pub stays_unless : Bool → Move
stays_unless is_closing = if is_closing then Hang else Park Pause

-- the row of `Stay`: the channel waits for a time-out
abbrev pub stay_row : Row
stay_row arguments cell = record { cell = cell; next = stays_unless cell.is_closing }

-- the row of `Ping` keeps the laws with each touch that names the variables
pub ping_lawful : (touch : Touch) → touch.variables ≡ true → IsLawfulRow touch ping_row
ping_lawful touch touches = going_lawful touch ping_row
    (λ arguments cell. with_store_kept touch cell (set cell.store (codes "P") arguments)
    (set_kept touch cell.store cell.store (codes "P") arguments touches (store_kept touch cell.store)))
    (λ arguments cell. refl) (λ arguments cell. tt)

false_is_true : false ≡ true → ⊥
false_is_true e = cc

stay_parks : (count : ℕ) (b : Bool) → MayGo count (stays_unless b)
stay_parks count true = tt
stay_parks count false = tt

stay_waits : (lists : List (List ℕ)) (number : ℕ) (b : Bool) → lists ≡ waiting_after lists number (stays_unless b)
stay_waits lists number true = refl
stay_waits lists number false = refl

stay_closes : (b : Bool) → b ≡ true → ParksNowhere (stays_unless b)
stay_closes true closing = tt
stay_closes false closing = absurd (false_is_true closing)

-- the row of `Stay` keeps the laws with every touch
pub stay_lawful : (touch : Touch) → IsLawfulRow touch stay_row
stay_lawful touch = record {
  keeps = λ arguments cell. cell_kept touch cell;
  parks = λ arguments cell. stay_parks (length cell.queues.queues) cell.is_closing;
  waits = λ arguments cell. stay_waits (waiting_lists cell.queues) cell.number cell.is_closing;
  closes = λ arguments cell closing. stay_closes cell.is_closing closing;
  hangs = λ arguments cell phase closing parks. ap (λ b. record { cell = cell; next = stays_unless b }) closing;
}

-- the table of the two, given how names are compared with its own
abbrev pub own_rows : (List ℕ → List ℕ → Bool) → Rows
own_rows same name =
    if same name (codes "Ping") then Some ping_row else (if same name (codes "Stay") then Some stay_row else None)

-- the touches of its names
abbrev pub own_touches : (List ℕ → List ℕ → Bool) → List ℕ → Touch
own_touches same name =
    if same name (codes "Ping") then the_variables else (if same name (codes "Stay") then nothing else nothing)

own_row_lawful : (is_ping is_stay : Bool) (row : Row) → (if is_ping then Some ping_row else (if is_stay then Some stay_row else None)) ≡ Some row →
    IsLawfulRow (if is_ping then the_variables else (if is_stay then nothing else nothing)) row
own_row_lawful true is_stay row there = subst (λ r. IsLawfulRow the_variables r) (same_Some ping_row row there) (ping_lawful the_variables refl)
own_row_lawful false true row there = subst (λ r. IsLawfulRow nothing r) (same_Some stay_row row there) (stay_lawful nothing)
own_row_lawful false false row there = absurd (none-some row there)

-- the table is lawful, however names are compared with its own
pub own_lawful : (same : List ℕ → List ℕ → Bool) → IsLawful (own_touches same) (own_rows same)
own_lawful same name row there = own_row_lawful (same name (codes "Ping")) (same name (codes "Stay")) row there

-- if names are compared without case, the table is blind to case
pub own_blind : IsBlind (own_touches same_word) (own_rows same_word)
own_blind =
    with_row_blind (codes "Ping") the_variables ping_row (with_touch (codes "Stay") nothing no_touch) (with_row (codes "Stay") stay_row no_rows)
    (with_row_blind (codes "Stay") nothing stay_row no_touch no_rows no_rows_blind)

-- if names must be the same byte by byte, it is not
pub own_sees_case : IsBlind (own_touches same_text) (own_rows same_text) → ⊥
own_sees_case blind = none-some ping_row (blind.row (codes "Ping") (codes "ping") refl)
