-- The effects of setting names: the rows of `Set` and `MSet`, and settings from outside.
use Rattle.std.specs.Prelude.{ℕ, Bool, ◌==◌, ◌&&◌, ◌||◌, List, [], ◌∷◌, fold, Option, Some, None, unwrap_or, codes, if◌then◌else◌}
use Rattle.std.specs.FinMap.{insert}
use Rattle.std.specs.Option.{option_and_then, option_map_or}
use Rattle.dp_conf.specs.Blanks.{trim}
use Rattle.dp_conf.specs.Cut.{before_last, cut_once}
use Rattle.dp_conf.specs.Levels.{arguments_of, parts_of}
use Rattle.dp_conf.specs.Words.{same_text}
use Rattle.dp_vars.specs.Functions.{SettingTarget, Variable, Global, Local, Caller, Nothing}
use Rattle.dp_vars.specs.Stores.{StoreOf, set, set_local}
use Rattle.dp_vars.specs.Variables.{Named}
use Rattle.dp_app.specs.Cells.{CellOf}
use Rattle.dp_app.specs.Rows.{Row}
use Rattle.dp_app.specs.declared.moves.Move.TheVariants.{Next}
use Rattle.dp_app.specs.declared.place.Place.{Place}
use Rattle.dp_flow.specs.Settings.{argument_of, before_end}
use Rattle.dp_wide.specs.Cells.{cell_name, is_of_all}
use Rattle.dp_wide.specs.Deleting.{with_empty_key}

-- the settable parts of a cell
pub record Settable : Type 0 where
  pub caller : List ℕ
  pub store : StoreOf Place
  pub globals : Named

-- the settable parts of this cell
abbrev pub settable_of : CellOf → Settable
settable_of cell = record { caller = cell.caller; store = cell.store; globals = cell.globals }

-- the cell with its settable parts after settings
abbrev pub with_settable : CellOf → Settable → CellOf
with_settable cell s = record cell { caller = s.caller; store = s.store; globals = s.globals }

-- a name without a leading `_`, the mark of inheritance
abbrev pub without_mark : List ℕ → List ℕ
without_mark [] = []
without_mark (b ∷ bs) = if b == 95 then bs else b ∷ bs

-- a name that is set, without blanks at its ends and without up to two such marks
abbrev pub bare_name : List ℕ → List ℕ
bare_name name = without_mark (without_mark (trim name))

-- what a name sets: one thing, the name and the number of the caller, the key of a cell that becomes empty, or each of a list of names
pub data EffectOf : Type 0 where
  OneTarget : SettingTarget → EffectOf
  NameAndNumber : EffectOf
  EmptyKey : List ℕ → EffectOf
  EachName : List ℕ → EffectOf

-- whether setting the function does more than to write a cell, so that it has no effect here
abbrev pub does_more : List ℕ → List ℕ → Bool
does_more function argument =
    same_text function (codes "HASH") || same_text function (codes "PUSH") || same_text function (codes "UNSHIFT")
    || same_text function (codes "INC") || same_text function (codes "DEC") || same_text function (codes "SHIFT")
    || same_text function (codes "POP") || same_text function (codes "EVAL")
    || (same_text function (codes "CHANNEL") && same_text argument (codes "hangup_handler_push"))

-- the cell of a function, given its whole name
abbrev pub cell_target : List ℕ → List ℕ → SettingTarget
cell_target name function = if is_of_all function then Global name else Variable name

-- what `CALLERID` with an argument sets, given the whole name
abbrev pub caller_effect : List ℕ → List ℕ → EffectOf
caller_effect name argument =
    if same_text argument (codes "num") || same_text argument (codes "number") then OneTarget Caller
    else (if same_text argument (codes "all") then NameAndNumber else OneTarget (Variable name))

-- what a function with an argument sets, given the whole name
abbrev pub function_effect : List ℕ → List ℕ → List ℕ → EffectOf
function_effect name function argument =
    if same_text function (codes "GLOBAL") then OneTarget (Global argument)
    else (if same_text function (codes "LOCAL") then OneTarget (Local argument)
    else (if same_text function (codes "CALLERID") then caller_effect name argument
    else (if same_text function (codes "DB_DELETE") then EmptyKey argument
    else (if same_text function (codes "ARRAY") then EachName argument
    else (if does_more function argument then OneTarget Nothing
    else OneTarget (cell_target name function))))))

-- the variable with a name; the empty name sets nothing
abbrev pub variable_target : List ℕ → SettingTarget
variable_target [] = Nothing
variable_target (b ∷ bs) = Variable (b ∷ bs)

-- what a function sets if it has an argument
abbrev pub called_effect : List ℕ → List ℕ → Option (List ℕ) → EffectOf
called_effect name function None = OneTarget Nothing
called_effect name function (Some argument) = function_effect name function argument

-- what a name sets, given its first `(`, which makes it a function
abbrev pub effect_by : List ℕ → Option (List ℕ × List ℕ) → EffectOf
effect_by name None = OneTarget (variable_target name)
effect_by name (Some cut) = called_effect name cut.0 (argument_of cut.1)

-- what a name sets
unfoldable pub effect_of : List ℕ → EffectOf
effect_of name = effect_by name (cut_once 40 name)

-- the one thing that is set, if it is one
abbrev pub one_target : EffectOf → SettingTarget
one_target (OneTarget target) = target
one_target NameAndNumber = Nothing
one_target (EmptyKey key) = Nothing
one_target (EachName names) = Nothing

-- what a name that is set from outside sets
abbrev pub wide_target : List ℕ → SettingTarget
wide_target name = one_target (effect_of (bare_name name))

-- the parts after a value was set
abbrev pub with_target : Settable → SettingTarget → List ℕ → Settable
with_target s (Variable name) value = record s { store = set s.store name value }
with_target s (Global name) value = record s { globals = insert s.globals name value }
with_target s (Local name) value = record s { store = set_local s.store name value }
with_target s Caller value = record s { caller = value }
with_target s Nothing value = s

-- the name and the number of a caller, as texts
pub record CallerTextOf : Type 0 where
  pub name : List ℕ
  pub number : List ℕ

-- the text before a quote that is the last byte
abbrev pub before_quote : List ℕ → Option (List ℕ)
before_quote after = option_and_then (before_end after) (before_last 34 after)

-- a text without the quotes at its two ends
abbrev pub without_quotes : List ℕ → List ℕ
without_quotes [] = []
without_quotes (b ∷ bs) = if b == 34 then unwrap_or (before_quote bs) (b ∷ bs) else b ∷ bs

-- a number without a name
abbrev pub number_alone : List ℕ → CallerTextOf
number_alone text = record { name = []; number = trim text }

-- a name, quoted or bare, and a number in angle brackets
abbrev pub name_and_number : List ℕ → List ℕ → CallerTextOf
name_and_number front number = record { name = without_quotes (trim front); number = trim number }

-- the caller that a text names, given the first `<`: the number ends at the last `>` after it; without these all is the number
abbrev pub caller_by : List ℕ → Option (List ℕ × List ℕ) → CallerTextOf
caller_by text None = number_alone text
caller_by text (Some cut) = option_map_or (name_and_number cut.0) (before_last 62 cut.1) (number_alone text)

-- the name and the number of the caller that a text names
unfoldable pub caller_of : List ℕ → CallerTextOf
caller_of text = caller_by text (cut_once 60 text)

-- the parts after the name and the number of the caller were set
abbrev pub with_caller : Settable → CallerTextOf → Settable
with_caller s caller =
    record s { caller = caller.number; store = set s.store (cell_name (codes "CALLERID") (codes "name")) caller.name }

-- the parts after a name was set, with each of a list of names taken as a plain cell
abbrev pub with_effect : Settable → List ℕ → EffectOf → List ℕ → Settable
with_effect s name (OneTarget target) value = with_target s target value
with_effect s name NameAndNumber value = with_caller s (caller_of value)
with_effect s name (EmptyKey key) value = record s { globals = with_empty_key s.globals key }
with_effect s name (EachName names) value = with_target s (Variable name) value

-- the parts after one of a list of names was set
abbrev pub with_one : Settable → List ℕ → List ℕ → Settable
with_one s name value = with_effect s (bare_name name) (effect_of (bare_name name)) value

-- the first of a list of values; empty if there is none
abbrev pub first_value : List (List ℕ) → List ℕ
first_value [] = []
first_value (value ∷ values) = value

-- the values after the first
abbrev pub later_values : List (List ℕ) → List (List ℕ)
later_values [] = []
later_values (value ∷ values) = values

-- the parts after each of a list of names was set to its value, in order; missing values are empty
abbrev pub with_each : Settable → List (List ℕ) → List (List ℕ) → Settable
with_each s [] values = s
with_each s (name ∷ names) values = with_each (with_one s name (first_value values)) names (later_values values)

-- the parts after a name was set, given what it sets
abbrev pub with_setting : Settable → List ℕ → EffectOf → List ℕ → Settable
with_setting s name (OneTarget target) value = with_effect s name (OneTarget target) value
with_setting s name NameAndNumber value = with_effect s name NameAndNumber value
with_setting s name (EmptyKey key) value = with_effect s name (EmptyKey key) value
with_setting s name (EachName names) value = with_each s (parts_of names) (parts_of value)

-- the parts after a name was set
abbrev pub with_value : Settable → List ℕ → List ℕ → Settable
with_value s name value = with_setting s (bare_name name) (effect_of (bare_name name)) value

-- the parts after a setting: the name is before the first `=`, and the value after it; without a `=` nothing changes
abbrev pub with_pair : Settable → Option (List ℕ × List ℕ) → Settable
with_pair s None = s
with_pair s (Some cut) = with_value s cut.0 cut.1

-- the parts after a setting with this text
abbrev pub with_text : Settable → List ℕ → Settable
with_text s text = with_pair s (cut_once 61 text)

-- the row of `Set`
unfoldable pub set_row : Row
set_row arguments cell = record { cell = with_settable cell (with_text (settable_of cell) arguments); next = Next }

-- the row of `MSet`: each of its arguments is a setting
unfoldable pub mset_row : Row
mset_row arguments cell =
    record { cell = with_settable cell (fold with_text (settable_of cell) (arguments_of arguments)); next = Next }
