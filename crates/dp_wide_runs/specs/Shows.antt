-- A `show` of a call, `show CH NAME(ARG)`: it shows the value of the group `${NAME(ARG)}` in the channel. The name of the channel itself,
-- `CHANNEL`, is shown so too, since its value is that of the group and not that of the plain script.
use Rattle.std.specs.Prelude.{ℕ, ◌++◌, ◌-◌, ◌==◌, ◌&&◌, ◌||◌, Bool, false, List, [], ◌∷◌, length, Option, Some, None, slice_get, codes, if◌then◌else◌}
use Rattle.std.specs.List.{list_any}
use Rattle.dp_conf.specs.Words.{same_text}
use Rattle.dp_machine.specs.Unknown.{unknown_in_text}
use Rattle.dp_machine.specs.World.{World, text_in}
use Rattle.dp_wide.specs.Functions.{wide_functions}
use Rattle.dp_commands.specs.declared.script.Turn.{Turn}
use Rattle.dp_commands.specs.declared.script.Turn.TheVariants.{Event, Show}

-- whether a byte, if there is one, is `)`
abbrev pub closes : Option ℕ → Bool
closes None = false
closes (Some byte) = byte == 41

-- whether a text has a `(`
abbrev pub has_opening : List ℕ → Bool
has_opening text = list_any (λ byte. byte == 40) text

-- whether the last byte of a text, if it has one, is `)`
abbrev pub is_closed : List ℕ → Bool
is_closed text = closes (slice_get text (length text - 1))

-- whether a name is a call: it has a `(`, and ends with `)`
abbrev pub is_call : List ℕ → Bool
is_call name = has_opening name && is_closed name

-- whether the value of a name is that of its group: it is a call, or the name of the channel
abbrev pub reads_group : List ℕ → Bool
reads_group name = is_call name || same_text name (codes "CHANNEL")

-- the number of the channel, and the call, of a turn of a plain script that shows one
abbrev pub call_in : Turn → Option (ℕ × List ℕ)
call_in (Event event) = None
call_in (Show number name) = if reads_group name then Some (number, name) else None

-- the group of a name, `${NAME}`
abbrev pub group_of : List ℕ → List ℕ
group_of name = codes "${" ++ name ++ codes "}"

-- the value of a call in the channel with a number; None if there is no such channel
abbrev pub call_value : World → ℕ × List ℕ → Option (List ℕ)
call_value w call = text_in wide_functions w call.0 (group_of call.1)

-- the first group in a call that is unknown in the channel with a number
abbrev pub call_unknown : World → ℕ × List ℕ → Option (List ℕ)
call_unknown w call = unknown_in_text wide_functions w call.0 (group_of call.1)

-- the line of a call with its value, `NAME(ARG)=VALUE`
abbrev pub value_line : List ℕ → List ℕ → List ℕ
value_line name value = name ++ codes "=" ++ value ++ 10 ∷ []
