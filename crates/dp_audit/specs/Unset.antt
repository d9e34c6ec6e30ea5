-- The variables that arguments read but nothing sets.
use Rattle.std.specs.Prelude.{◌≡◌, ℕ, Bool, not, ◌&&◌, ◌||◌, ◌==◌, List, [], ◌∷◌, ◌++◌, length, get_or, take, position, map, filter, Option, Some, None, codes, decimal, if◌then◌else◌}
use Rattle.std.specs.List.{list_any, flat_map, range_with_len}
use Rattle.std.specs.Option.{option_map_or, option_and_then, option_to_list}
use Rattle.dp_conf.specs.Blanks.{trim}
use Rattle.dp_conf.specs.Cut.{before_last, cut_once}
use Rattle.dp_conf.specs.Levels.{arguments_of}
use Rattle.dp_conf.specs.Words.{same_text, same_word}
use Rattle.dp_plan.specs.Plan.{PlanOf}
use Rattle.dp_plan.specs.declared.entry.Entry.{Entry}
use Rattle.dp_audit.specs.Targets.{jump_of, targets_in}
use Rattle.dp_audit.specs.declared.jump.Jump.{Jump}
use Rattle.dp_audit.specs.declared.unset_variables.SetNames.{SetNames}

-- whether a byte ends a name; `stops_name`: whether it ends a name, or the bytes before it are none
abbrev pub ends_name : ℕ → Bool
ends_name byte = byte == 58 || byte == 125

abbrev pub stops_name : ℕ → Bool
stops_name byte = ends_name byte || byte == 36 || byte == 40

-- the name at the start of a group in braces: the bytes before its first `:` or `}`, unless a `$` or a `(` comes first
abbrev pub front_by : List ℕ → Option ℕ → Option (List ℕ)
front_by body None = None
front_by body (Some place) = if ends_name (get_or body place 0) then Some (take place body) else None

abbrev pub front_name : List ℕ → Option (List ℕ)
front_name body = front_by body (position stops_name body)

-- the name in a group in braces, given the byte that opens the group and the bytes after it
abbrev pub name_after : ℕ → List ℕ → Option (List ℕ)
name_after byte [] = None
name_after byte (next ∷ after) = if byte == 36 && next == 123 then front_name after else None

-- the names that a text reads, from left to right: one for each `${` with a name and a `:` or `}` after it
unfoldable pub names_read : List ℕ → List (List ℕ)
names_read [] = []
names_read (byte ∷ after) = option_to_list (name_after byte after) ++ names_read after

-- whether a name is one that a channel gives or the machine sets
abbrev pub is_of_channel : List ℕ → Bool
is_of_channel name =
    same_text name (codes "EXTEN") || same_text name (codes "CONTEXT") || same_text name (codes "PRIORITY") || same_text name (codes "CHANNEL")
    || same_text name (codes "INVALID_EXTEN")

-- whether a name is one that applications that call or return set
abbrev pub is_status : List ℕ → Bool
is_status name = same_text name (codes "GOSUB_RETVAL") || same_text name (codes "DIALSTATUS") || same_text name (codes "QUEUESTATUS")

-- whether a name is one that applications on members of queues set
abbrev pub is_member_status : List ℕ → Bool
is_member_status name =
    same_text name (codes "AQMSTATUS") || same_text name (codes "RQMSTATUS") || same_text name (codes "PQMSTATUS") || same_text name (codes "UPQMSTATUS")

abbrev pub is_given : List ℕ → Bool
is_given name = is_of_channel name || is_status name || is_member_status name

-- whether a function sets a variable
abbrev pub sets_argument : List ℕ → Bool
sets_argument function = same_text function (codes "GLOBAL") || same_text function (codes "LOCAL")

-- the variable that `Set` sets, given the name before its `=`: the name itself, or the argument of `GLOBAL` or `LOCAL`
abbrev pub variable_by : List ℕ → Option (List ℕ × List ℕ) → Option (List ℕ)
variable_by name None = Some name
variable_by name (Some cut) = if sets_argument cut.0 then before_last 41 cut.1 else None

abbrev pub variable_of : Option (List ℕ × List ℕ) → Option (List ℕ)
variable_of None = None
variable_of (Some cut) = variable_by (trim cut.0) (cut_once 40 (trim cut.0))

-- the arguments of a subroutine: those between the first `(` of its target and the last `)` after it
abbrev pub inner_arguments : List ℕ → List (List ℕ)
inner_arguments [] = []
inner_arguments (b ∷ bs) = arguments_of (b ∷ bs)

abbrev pub arguments_given : List ℕ → List (List ℕ)
arguments_given text = option_map_or inner_arguments (option_and_then (λ cut. before_last 41 cut.1) (cut_once 40 text)) []

-- the name of the argument with a number, and the names of so many arguments: `ARG1` and so on
abbrev pub argument_name : ℕ → List ℕ
argument_name number = codes "ARG" ++ decimal number

abbrev pub argument_names : ℕ → List (List ℕ)
argument_names count = map argument_name (range_with_len 1 count)

-- the names that a target sets: the arguments of a subroutine
abbrev pub target_sets : Jump → List ℕ → List (List ℕ)
target_sets jump text = if jump.is_subroutine then argument_names (length (arguments_given text)) else []

abbrev pub targets_set : Entry → Option Jump → List (List ℕ)
targets_set entry None = []
targets_set entry (Some jump) = flat_map (target_sets jump) (targets_in jump entry.arguments)

-- the names that an entry sets: the variable of a `Set`, or the arguments of a subroutine
abbrev pub entry_sets : Entry → List (List ℕ)
entry_sets entry =
    if same_word entry.application (codes "Set") then option_to_list (variable_of (cut_once 61 entry.arguments))
    else targets_set entry (jump_of entry.application)

-- the names that the dialplan sets: its globals, and those that its entries set
abbrev pub names_set : PlanOf → List (List ℕ)
names_set plan = flat_map (λ global. global.name ∷ []) plan.globals ++ flat_map (λ context. flat_map entry_sets context.entries) plan.contexts

-- whether something sets the name
abbrev pub is_set : PlanOf → List ℕ → Bool
is_set plan name = is_given name || list_any (same_text name) (names_set plan)

-- the names that the arguments of an entry read but nothing sets, from left to right
unfoldable pub unset_names : PlanOf → Entry → List (List ℕ)
unset_names plan entry = filter (λ name. not (is_set plan name)) (names_read entry.arguments)

-- whether the name is among the recorded ones
abbrev pub has_set : SetNames → List ℕ → Bool
has_set noted name = list_any (same_text name) noted.names.keys

-- whether nothing sets the name according to the records
abbrev pub lacks : SetNames → List ℕ → Bool
lacks noted name = not (is_given name || has_set noted name)

-- some names were added to the records
abbrev pub Adds : SetNames → SetNames → List (List ℕ) → Type 0
Adds old new names = (name : List ℕ) → has_set new name ≡ (has_set old name || list_any (same_text name) names)

-- the records are what the dialplan sets
abbrev pub AreSet : PlanOf → SetNames → Type 0
AreSet plan noted = (name : List ℕ) → has_set noted name ≡ list_any (same_text name) (names_set plan)
