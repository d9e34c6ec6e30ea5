-- The manual's entries on faults and refusals, found by number or by name. Their texts exist once in the source.
use Rattle.std.specs.Prelude.{ℕ, Bool, List, [], ◌∷◌, ◌++◌, Option, Some, None, is_some, map, unwrap_or, nat_eq, decimal, codes, ◌==◌, if◌then◌else◌}
use Rattle.std.specs.List.{filter_map, starts_with}
use Rattle.std.specs.Option.{option_and_then, option_map_or}
use Rattle.dp_conf.specs.Cut.{cut_once}
use Rattle.dp_conf.specs.Lines.{parts_of}
use Rattle.dp_conf.specs.Words.{same_text}
use Rattle.dp_plan.specs.declared.fault.PlanKind.{PlanKind}
use Rattle.dp_plan.specs.declared.fault.PlanKind.TheVariants.{LeftOut}
use Rattle.dp_plan.specs.declared.fault.Word.{Word}
use Rattle.dp_plan.specs.declared.fault.Word.TheVariants.{Switch, IgnorePat, CallerId, IncludeTimes, Variable, Hint, OldForm, PriorityWord}
use Rattle.dp_machine.specs.Codes.{refusal_code}
use Rattle.dp_machine.specs.declared.refusal.Refusal.{Refusal}
use Rattle.dp_commands.specs.Codes.{code_number}
use Rattle.dp_commands.specs.Explained.{line_among}
use Rattle.dp_commands.specs.declared.fault.Code.{Code}
use Rattle.dp_commands.specs.declared.fault.Code.TheVariants.{Plan}
use Rattle.dp_program.specs.declared.entries.TheConstants.{ENTRIES}

-- the entry with a number in a list of entries
abbrev pub entry_in : List (ℕ × List ℕ) → ℕ → Option (List ℕ)
entry_in [] number = None
entry_in (entry ∷ entries) number = if entry.0 == number then Some entry.1 else entry_in entries number

-- the entry of a number if a fault has the number
unfoldable pub found_entry : ℕ → Option (List ℕ)
found_entry number = entry_in (map (λ entry. (entry.0, entry.1.now)) ENTRIES) number

-- whether a fault has the number
abbrev pub has_entry : ℕ → Bool
has_entry number = is_some (found_entry number)

-- the entry of a fault's number; it is never asked for any other number
abbrev pub entry_of : ℕ → List ℕ
entry_of number = unwrap_or (found_entry number) []

-- the entry of a refusal
abbrev pub explanation_of : Refusal → List ℕ
explanation_of refusal = entry_of (refusal_code refusal)

-- the manual's sentence on a fault: the second line of its entry
abbrev pub sentence_of : ℕ → List ℕ
sentence_of number = line_among (parts_of (entry_of number)) 2

-- whether an entry begins with this number and this name on a line of their own
abbrev pub is_headed : ℕ → List ℕ → List ℕ → Bool
is_headed number name entry = starts_with nat_eq entry (decimal number ++ codes " " ++ name ++ codes "\n")

-- the name in an entry: the rest of the first line after the number
abbrev pub name_in : List ℕ → List ℕ
name_in entry = option_map_or (λ cut. cut.1) (cut_once 32 (line_among (parts_of entry) 1)) []

-- the numbers of the entries that have a name
abbrev pub numbers_in : List (ℕ × List ℕ) → List ℕ → List ℕ
numbers_in entries name = filter_map (λ entry. if same_text (name_in entry.1) name then Some entry.0 else None) entries

-- the element of a list with exactly one element
abbrev pub only : List ℕ → Option ℕ
only [] = None
only (number ∷ []) = Some number
only (number ∷ next ∷ numbers) = None

-- the number of the fault with a name, if exactly one fault has it
unfoldable pub found_number : List ℕ → Option ℕ
found_number name = only (numbers_in (map (λ entry. (entry.0, entry.1.now)) ENTRIES) name)

-- a number if it is the number of a fault
abbrev pub fault_numbered : ℕ → Option ℕ
fault_numbered number = if has_entry number then Some number else None

-- the fault with a name, if exactly one fault has it
abbrev pub fault_named : List ℕ → Option ℕ
fault_named name = option_and_then fault_numbered (found_number name)

-- the line of entry 24 that holds a kind of what is left out
abbrev pub kind_line : Word → ℕ
kind_line Switch = 5
kind_line IgnorePat = 8
kind_line Hint = 11
kind_line PriorityWord = 14
kind_line CallerId = 17
kind_line Variable = 20
kind_line IncludeTimes = 23
kind_line OldForm = 26

-- a kind of what is left out, in the manual's words
abbrev pub kind_of : Word → List ℕ
kind_of word = line_among (parts_of (entry_of 24)) (kind_line word)

-- the text before the kind of what is left out
unfoldable pub left_out : List ℕ
left_out = codes "what this program leaves out: "

-- the sentence on a fault of a context's line: the kind of what is left out, or else the manual's sentence
abbrev pub said_of_plan : PlanKind → ℕ → List ℕ
said_of_plan (LeftOut word) number = left_out ++ kind_of word
said_of_plan _ number = sentence_of number

-- the sentence on a fault
abbrev pub said_of : Code → List ℕ
said_of (Plan kind) = said_of_plan kind (code_number (Plan kind))
said_of code = sentence_of (code_number code)
