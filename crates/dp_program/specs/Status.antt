-- The status of the program, and the text printed with it.
use Rattle.std.specs.Prelude.{ℕ, Bool, true, false, List, [], ◌++◌, Option, Result, Ok, Err, codes}
use Rattle.std.specs.Io.KnownBytes.{Appends}
use Rattle.dp_commands.specs.Codes.{fault_line}
use Rattle.dp_commands.specs.Explained.{line_text, sentence_text}
use Rattle.dp_commands.specs.declared.fault.PbxFault.{PbxFault}
use Rattle.dp_commands.specs.declared.fault.PbxFault.TheVariants.{Coded, NoMemory}
use Rattle.dp_program.specs.Entries.{said_of}
use Rattle.dp_program.specs.Faulted.{PlaceOf, in_line, in_file, in_none, place_of}
use Rattle.dp_program.specs.declared.fault_places.Faulted.{Faulted}
use Rattle.dp_program.specs.declared.hints.ServedRequest.{ServedRequest}

-- the status of a result: that of an answer, and 1 for a fault
abbrev pub status_after : {F : Type 0} → Result ℕ F → ℕ
status_after (Ok status) = status
status_after (Err fault) = 1

-- the path of a file, indented on a line of its own
abbrev pub file_text : List ℕ → List ℕ
file_text path = codes "  " ++ path ++ codes "\n"

-- the place of a fault: the line, or the file that could not be read
abbrev pub place_text : PlaceOf → List ℕ
place_text (in_line line) = line_text line
place_text (in_file path) = file_text path
place_text in_none = []

-- the explanation of a fault: its place, and the sentence on it; running out of memory has no explanation
abbrev pub explanation : PbxFault → PlaceOf → List ℕ
explanation (Coded code line) place = place_text place ++ sentence_text (said_of code)
explanation NoMemory place = []

-- the line of a fault, followed by its explanation if that is asked for
abbrev pub fault_text : Bool → Faulted → List ℕ
fault_text false faulted = fault_line faulted.fault
fault_text true faulted = fault_line faulted.fault ++ explanation faulted.fault (place_of faulted.place)

-- the text printed with a status: the hints beside an answer, or the text of a fault
abbrev pub Prints : Option (List ℕ) → Option (List ℕ) → Bool → Result ServedRequest Faulted → Type 0
Prints old new explains (Ok served) = Appends old new served.hint.items
Prints old new explains (Err faulted) = Appends old new (fault_text explains faulted)
