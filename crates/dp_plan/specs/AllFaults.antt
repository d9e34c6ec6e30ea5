-- All faults in the text of a dialplan, including those of lines after the first faulty one.
use Rattle.std.specs.Prelude.{ℕ, List, [], ◌∷◌, ◌++◌, Result, Ok, Err}
use Rattle.dp_conf.specs.Answers.{◌>>=◌}
use Rattle.dp_conf.specs.Lines.{LineOf, lines_of}
use Rattle.dp_plan.specs.Faults.{text_fault}
use Rattle.dp_plan.specs.History.{history_of}
use Rattle.dp_plan.specs.Item.{Item}
use Rattle.dp_plan.specs.Items.{line_item}
use Rattle.dp_plan.specs.declared.fault.LoadFault.{LoadFault}

-- the items of a line, and none if it has a fault
abbrev pub items_in : Result (List Item) LoadFault → List Item
items_in (Ok items) = items
items_in (Err fault) = []

-- the fault of a line, if it has one
abbrev pub fault_in : Result (List Item) LoadFault → List LoadFault
fault_in (Ok items) = []
fault_in (Err fault) = fault ∷ []

-- a line, unless it has a fault
abbrev pub line_in : LineOf → Result (List Item) LoadFault → List LineOf
line_in line (Ok items) = line ∷ []
line_in line (Err fault) = []

-- the faults of lines, in the order of the lines. Each line is read with the items of the lines before it that have no fault.
abbrev pub faults_after : List Item → List LineOf → List LoadFault
faults_after before [] = []
faults_after before (line ∷ lines) =
    fault_in (line_item (history_of before) line)
    ++ faults_after (before ++ items_in (line_item (history_of before) line)) lines

-- the lines without a fault, if each is read this way
abbrev pub faultless_after : List Item → List LineOf → List LineOf
faultless_after before [] = []
faultless_after before (line ∷ lines) =
    line_in line (line_item (history_of before) line)
    ++ faultless_after (before ++ items_in (line_item (history_of before) line)) lines

-- the items of those lines
abbrev pub kept_after : List Item → List LineOf → List Item
kept_after before [] = []
kept_after before (line ∷ lines) =
    items_in (line_item (history_of before) line)
    ++ kept_after (before ++ items_in (line_item (history_of before) line)) lines

-- all faults in the lines of a text, or the first fault of the text itself, which ends the reading
unfoldable pub faults_of : List ℕ → Result (List LoadFault) LoadFault
faults_of text = text_fault (lines_of text) >>= λ lines. Ok (faults_after [] lines)
