-- The lines of a file of queues as Asterisk reads them, written with the words that the reader of queues knows.
use Rattle.std.specs.Prelude.{ℕ, Bool, not, ◌&&◌, ◌||◌, ◌==◌, List, [], ◌∷◌, ◌++◌, Option, Some, None, codes, if◌then◌else◌}
use Rattle.std.specs.List.{list_all, list_any, slice_split}
use Rattle.std.specs.Option.{option_map}
use Rattle.std.specs.Str.{byte}
use Rattle.dp_conf.specs.Lines.{LineOf, Header, Pair}
use Rattle.dp_conf.specs.Words.{same_word}
use Rattle.dp_files.specs.declared.source_line.MadeLine.{MadeLine}
use Rattle.dp_notices.specs.GroupNames.{items_in}
use Rattle.dp_notices.specs.declared.line_notices.NoticeAt.{NoticeAt}
use Rattle.dp_notices.specs.declared.notice.Notice.TheVariants.{Queue as queue_note}
use Rattle.dp_notices.specs.declared.notice.QueueNote.{QueueNote}
use Rattle.dp_notices.specs.declared.notice.QueueNote.TheVariants.{Random, InUse}

-- ---- the values of keys

-- a strategy that chooses at random
abbrev pub is_random : List ℕ → Bool
is_random value = same_word value (codes "random") || same_word value (codes "wrandom")

-- the strategy as which another one is read: `rrordered` is `rrmemory`, and one that chooses at random is `ringall`
abbrev pub other_strategy : List ℕ → Option (List ℕ)
other_strategy value =
    if same_word value (codes "rrordered") then Some (codes "rrmemory")
    else if is_random value then Some (codes "ringall")
    else None

-- the words of a list for `joinempty` or `leavewhenempty`: its parts between commas
abbrev pub words_of : List ℕ → List (List ℕ)
words_of value = slice_split (λ b. b == byte ",") value

-- whether a word is one of those that say which members do not count
abbrev pub is_uncounted : List ℕ → Bool
is_uncounted word =
    same_word word (codes "paused") || same_word word (codes "penalty") || same_word word (codes "inuse")
    || same_word word (codes "ringing") || same_word word (codes "unavailable") || same_word word (codes "invalid")
    || same_word word (codes "unknown") || same_word word (codes "wrapup")

-- whether a value is a list of such words
abbrev pub is_list : List ℕ → Bool
is_list value = list_all is_uncounted (words_of value)

-- whether a word is in a list
abbrev pub lists : List ℕ → List ℕ → Bool
lists word value = list_any (λ other. same_word other word) (words_of value)

-- the rule as which a list is read, given the rule for a list with `paused`; without `paused` only a queue without members is too empty
abbrev pub other_rule : List ℕ → List ℕ → Option (List ℕ)
other_rule paused value =
    if is_list value then Some (if lists (codes "paused") value then paused else codes "loose") else None

-- whether a key says when a queue is too empty
abbrev pub is_empty_key : List ℕ → Bool
is_empty_key key = same_word key (codes "joinempty") || same_word key (codes "leavewhenempty")

-- the value as which that of a key is read, if it is another one
abbrev pub other_value : List ℕ → List ℕ → Option (List ℕ)
other_value key value =
    if same_word key (codes "strategy") then other_strategy value
    else if same_word key (codes "joinempty") then other_rule (codes "no") value
    else if same_word key (codes "leavewhenempty") then other_rule (codes "yes") value
    else None

-- the note on a pair: on a strategy that chooses at random, and on a list with `inuse`, since agents that talk count here
abbrev pub note_on : List ℕ → List ℕ → Option QueueNote
note_on key value =
    if same_word key (codes "strategy") && is_random value then Some Random
    else if is_empty_key key && (is_list value && lists (codes "inuse") value) then Some InUse
    else None

-- ---- the lines

-- whether the lines after an item belong to a queue, given whether the item does
abbrev pub in_queue_after : Bool → List LineOf → Bool
in_queue_after within [] = within
in_queue_after within (Header line name ∷ items) = not (same_word name (codes "general"))
in_queue_after within (Pair line key value ∷ items) = within

-- a line of a key and a value
abbrev pub pair_text : List ℕ → List ℕ → List ℕ
pair_text key value = key ++ codes " = " ++ value

-- the text of the line of an item, if it is read as another one
abbrev pub other_text : Bool → List LineOf → Option (List ℕ)
other_text within [] = None
other_text within (Header line name ∷ items) = None
other_text within (Pair line key value ∷ items) = if within then option_map (pair_text key) (other_value key value) else None

-- the note on the line of an item
abbrev pub note_of : Bool → List LineOf → Option QueueNote
note_of within [] = None
note_of within (Header line name ∷ items) = None
note_of within (Pair line key value ∷ items) = if within then note_on key value else None

-- a line with another text, if there is one
abbrev pub with_text : Option (List ℕ) → MadeLine → MadeLine
with_text None line = line
with_text (Some text) line = record { source = line.source; text = text }

-- a note at a line of a file
abbrev pub note_at : ℕ → Option QueueNote → List NoticeAt
note_at source None = []
note_at source (Some note) = record { source = source; notice = queue_note note } ∷ []

-- lines with the words that the reader of queues knows, given whether the first belongs to a queue
abbrev pub queue_lines : Bool → List MadeLine → List MadeLine
queue_lines within [] = []
queue_lines within (line ∷ lines) =
    with_text (other_text within (items_in line.text)) line ∷ queue_lines (in_queue_after within (items_in line.text)) lines

-- the notes on them
abbrev pub queue_notes : Bool → List MadeLine → List NoticeAt
queue_notes within [] = []
queue_notes within (line ∷ lines) =
    note_at line.source (note_of within (items_in line.text)) ++ queue_notes (in_queue_after within (items_in line.text)) lines
