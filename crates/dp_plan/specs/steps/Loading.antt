-- A step of the code: the result of the lines so far and what they leave for the next one, line by line. The result of all lines of a text
-- is `plan_and_notes` and `lines_loaded` of Loaded.
use Rattle.std.specs.Prelude.{ℕ, List, fold, Option, Result, Ok}
use Rattle.dp_conf.specs.Answers.{◌>>=◌}
use Rattle.dp_conf.specs.FirstFaults.{made_or_fault}
use Rattle.dp_conf.specs.Lines.{LineOf, lines_of}
use Rattle.dp_conf.specs.declared.first_fault.FaultyLine.{FaultyLine}
use Rattle.dp_plan.specs.steps.Draft.{Drafted, nothing, with_item}
use Rattle.dp_plan.specs.Faults.{fault_of_line, text_fault}
use Rattle.dp_plan.specs.Items.{line_item}
use Rattle.dp_plan.specs.steps.Open.{reading_in}
use Rattle.dp_plan.specs.declared.lines.Lines.{Lines}
use Rattle.dp_plan.specs.declared.section.OpenSection.{OpenSection}
use Rattle.dp_plan.specs.steps.Reader.{ItemReading, nothing_read, after, history_in}
use Rattle.dp_plan.specs.declared.fault.LoadFault.{LoadFault}
use Rattle.dp_plan.specs.declared.fault.LoadKind.{LoadKind}
use Rattle.dp_plan.specs.Item.{Item}

-- what the lines so far leave for the next one, and the dialplan under construction
pub record MadeOf : Type 0 where
  pub reading : ItemReading
  pub draft : Drafted

-- the result of the lines, given the open section
abbrev pub made_in : OpenSection → Lines → MadeOf
made_in opened lines = record { reading = reading_in opened lines.reader; draft = lines.draft }

-- before the first line
abbrev pub nothing_made : MadeOf
nothing_made = record { reading = nothing_read; draft = nothing }

-- after one more item
abbrev pub after_item : MadeOf → Item → MadeOf
after_item made item = record {
  reading = after made.reading item;
  draft = with_item made.draft made.reading.extensions item;
}

-- after the item of one more line, or the line's fault
abbrev pub after_read : MadeOf → Result Item LoadFault → Result MadeOf LoadFault
after_read made read = read >>= λ item. Ok (after_item made item)

-- after the item of one more line, if it has one, or the line's fault
abbrev pub after_items : MadeOf → Result (List Item) LoadFault → Result MadeOf LoadFault
after_items made read = read >>= λ items. Ok (fold after_item made items)

-- after one more line, or the line's fault
abbrev pub after_line : MadeOf → LineOf → Result MadeOf LoadFault
after_line made line = after_items made (line_item (history_in made.reading) line)

-- the same, if a line before it may have a fault, which is kept
abbrev pub after_one : Result MadeOf LoadFault → LineOf → Result MadeOf LoadFault
after_one state line = state >>= λ made. after_line made line

-- the result, or the fault that was kept
abbrev pub outcome : Option (FaultyLine LoadKind) → MadeOf → Result MadeOf LoadFault
outcome = made_or_fault fault_of_line

-- the draft in the result
abbrev pub draft_made : Result MadeOf LoadFault → Result Drafted LoadFault
draft_made state = state >>= λ made. Ok made.draft

-- the result of all lines of a text: a fault of the text comes before those of a context
unfoldable pub drafted_of : List ℕ → Result Drafted LoadFault
drafted_of text = text_fault (lines_of text) >>= λ lines. draft_made (fold after_one (Ok nothing_made) lines)
