-- The names that a dialplan mentions other than by reading them, which may be names that it sets.
use Rattle.std.specs.Prelude.{◌≡◌, ℕ, Bool, not, ◌&&◌, ◌||◌, ◌==◌, nat_le, List, [], ◌∷◌, ◌++◌, drop, position, take, codes, Option, Some, None, if◌then◌else◌}
use Rattle.std.specs.List.{flat_map, list_any}
use Rattle.std.specs.Option.{option_to_list}
use Rattle.dp_conf.specs.Words.{same_text}
use Rattle.dp_plan.specs.Contexts.{PlanContext}
use Rattle.dp_plan.specs.Plan.{PlanOf}
use Rattle.dp_plan.specs.declared.entry.Entry.{Entry}
use Rattle.dp_wide.specs.Names.{is_given_by_asterisk, is_status}
use Rattle.dp_wide_runs.specs.declared.mentions.Mentions.{Mentions}

-- ---- names in arguments

-- whether a byte is a bracket: `(`, `)`, `[`, `]`, `{` or `}`
abbrev pub is_bracket : ℕ → Bool
is_bracket b = b == 40 || b == 41 || b == 91 || b == 93 || b == 123 || b == 125

-- whether a byte is a sign between parts of arguments: `"`, `$`, `&`, `,`, `:`, `=`, `?` or `|`
abbrev pub is_sign : ℕ → Bool
is_sign b = b == 34 || b == 36 || b == 38 || b == 44 || b == 58 || b == 61 || b == 63 || b == 124

-- whether a byte separates names: a blank, a bracket or a sign
abbrev pub separates : ℕ → Bool
separates b = nat_le b 32 || is_bracket b || is_sign b

-- whether a name that is not read begins at a byte, given the byte before it: after `{` a name is read
abbrev pub begins_name : ℕ → ℕ → Bool
begins_name before b = separates before && not (before == 123) && not (separates b)

-- the bytes before the first separator
abbrev pub front_by : List ℕ → Option ℕ → List ℕ
front_by text None = text
front_by text (Some place) = take place text

abbrev pub front_name : List ℕ → List ℕ
front_name text = front_by text (position separates text)

-- a name without the marks of inheritance in front of it
abbrev pub is_no_mark : ℕ → Bool
is_no_mark b = not (b == 95)

abbrev pub unmarked_by : List ℕ → Option ℕ → List ℕ
unmarked_by name None = []
unmarked_by name (Some place) = drop place name

abbrev pub without_marks : List ℕ → List ℕ
without_marks name = unmarked_by name (position is_no_mark name)

-- the name that begins a text, given the byte before the text
abbrev pub name_at : ℕ → List ℕ → Option (List ℕ)
name_at before [] = None
name_at before (b ∷ bs) = if begins_name before b then Some (without_marks (front_name (b ∷ bs))) else None

-- the names in a text that are not read, from left to right, given the byte before the text
unfoldable pub names_after : ℕ → List ℕ → List (List ℕ)
names_after before [] = []
names_after before (b ∷ bs) = option_to_list (name_at before (b ∷ bs)) ++ names_after b bs

-- the same for a whole text
abbrev pub names_in : List ℕ → List (List ℕ)
names_in text = names_after 44 text

-- ---- names of a dialplan

abbrev pub entry_mentions : Entry → List (List ℕ)
entry_mentions entry = names_in entry.arguments

abbrev pub context_mentions : PlanContext → List (List ℕ)
context_mentions context = flat_map entry_mentions context.entries

-- the names that the arguments of a dialplan's entries mention
abbrev pub names_mentioned : PlanOf → List (List ℕ)
names_mentioned plan = flat_map context_mentions plan.contexts

unfoldable pub is_mentioned : PlanOf → List ℕ → Bool
is_mentioned plan name = list_any (same_text name) (names_mentioned plan)

-- whether `Macro` sets a name: where it was called, and its arguments
abbrev pub is_macro_place : List ℕ → Bool
is_macro_place name =
    same_text name (codes "MACRO_EXTEN") || same_text name (codes "MACRO_CONTEXT") || same_text name (codes "MACRO_PRIORITY")
    || same_text name (codes "MACRO_OFFSET") || same_text name (codes "ARGC")

abbrev pub is_macro_argument : List ℕ → Bool
is_macro_argument name =
    same_text name (codes "ARG1") || same_text name (codes "ARG2") || same_text name (codes "ARG3") || same_text name (codes "ARG4")
    || same_text name (codes "ARG5") || same_text name (codes "ARG6") || same_text name (codes "ARG7") || same_text name (codes "ARG8")
    || same_text name (codes "ARG9")

-- whether Asterisk gives a name, or an application that is not modelled or a macro sets it
abbrev pub is_given : List ℕ → Bool
is_given name = is_given_by_asterisk name || is_status name || is_macro_place name || is_macro_argument name

-- whether a name is neither given nor mentioned
abbrev pub is_strange : PlanOf → List ℕ → Bool
is_strange plan name = not (is_given name || is_mentioned plan name)

-- ---- names that are recorded

abbrev pub has_name : Mentions → List ℕ → Bool
has_name noted name = list_any (same_text name) noted.names.keys

-- some names were added
abbrev pub Adds : Mentions → Mentions → List (List ℕ) → Type 0
Adds old new names = (name : List ℕ) → has_name new name ≡ (has_name old name || list_any (same_text name) names)

-- the records are what the dialplan mentions
abbrev pub AreMentioned : PlanOf → Mentions → Type 0
AreMentioned plan noted = (name : List ℕ) → has_name noted name ≡ is_mentioned plan name
