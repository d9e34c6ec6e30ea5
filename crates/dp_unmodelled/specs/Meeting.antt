-- The names that a run meets and that the program does not model, each reported once.
use Rattle.std.specs.Prelude.{◌==◌, ℕ, Bool, false, List, [], ◌∷◌, ◌++◌, take, position, Option, Some, None, codes, if◌then◌else◌}
use Rattle.std.specs.List.{list_any}
use Rattle.std.specs.Str.{byte}
use Rattle.dp_conf.specs.Words.{same_word}
use Rattle.dp_app.specs.Knowledge.{asks_nothing}
use Rattle.dp_machine.specs.Replay.{final_world}
use Rattle.dp_machine.specs.Unknown.{unknown_ahead}
use Rattle.dp_machine.specs.World.{World}
use Rattle.dp_machine.specs.declared.event.Event.{Event}
use Rattle.dp_machine.specs.declared.event.Event.TheVariants.{Step}
use Rattle.dp_machine.specs.declared.unknown.Unknown.{Unknown}
use Rattle.dp_machine.specs.declared.unknown.Unknown.TheVariants.{Application, Asked, Group}
use Rattle.dp_commands.specs.Turns.{Taken}
use Rattle.dp_commands.specs.declared.script.Turn.{Turn}
use Rattle.dp_commands.specs.declared.script.Turn.TheVariants.{Event as turn_event, Show}
use Rattle.dp_unmodelled.specs.Modelled.{modelled_meanings}

-- the name of a function in a call of it, given the place of the `(`
abbrev pub called_by : List ℕ → Option ℕ → List ℕ
called_by call None = call
called_by call (Some place) = take place call

abbrev pub called_name : List ℕ → List ℕ
called_name call = called_by call (position (λ b. b == byte "(") call)

-- the name of what is not modelled: an application, or a function
abbrev pub unmodelled_name : Unknown → List ℕ
unmodelled_name (Application name) = name
unmodelled_name (Group call) = called_name call
unmodelled_name (Asked name) = name

-- what an event meets that is not modelled: only a step runs an entry
abbrev pub met_by : World → Event → Option Unknown
met_by w (Step channel) = unknown_ahead modelled_meanings asks_nothing w channel
met_by w _ = None

-- a name is among those that are reported, in any ASCII case
abbrev pub is_reported : List (List ℕ) → List ℕ → Bool
is_reported names name = list_any (λ reported. same_word reported name) names

-- the line of a name
abbrev pub name_line : List ℕ → List ℕ
name_line name = codes "pbx: `" ++ (name ++ (codes "` is not modelled; --asterisk models it, or stops there" ++ 10 ∷ []))

-- the names that are reported after one that is met, and its line
abbrev pub with_name : List (List ℕ) → List ℕ → List (List ℕ)
with_name names name = if is_reported names name then names else names ++ name ∷ []

abbrev pub lines_for : List (List ℕ) → List ℕ → List ℕ
lines_for names name = if is_reported names name then [] else name_line name

-- the same, if something is met
abbrev pub names_after : List (List ℕ) → Option Unknown → List (List ℕ)
names_after names None = names
names_after names (Some unknown) = with_name names (unmodelled_name unknown)

abbrev pub lines_after : List (List ℕ) → Option Unknown → List ℕ
lines_after names None = []
lines_after names (Some unknown) = lines_for names (unmodelled_name unknown)

-- how a turn changes the names that are reported and the world, and the lines of what it meets
abbrev pub meeting_turn : List (List ℕ) × World → Turn → Taken (List (List ℕ) × World)
meeting_turn at (turn_event event) =
    record {
      state = (names_after at.0 (met_by at.1 event), final_world modelled_meanings at.1 event);
      lines = lines_after at.0 (met_by at.1 event);
      refused = false;
    }
meeting_turn at (Show number name) = record { state = at; lines = []; refused = false }
