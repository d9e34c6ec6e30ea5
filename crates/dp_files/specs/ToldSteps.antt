-- Steps of the code: the results of the lines that were read, with those of the remaining lines.
use Rattle.std.specs.Prelude.{ℕ, List, ◌++◌, Option}
use Rattle.std.specs.List.{flat_map}
use Rattle.std.specs.Option.{option_map, option_to_list}
use Rattle.dp_files.specs.ContextHistory.{LineHistoryOf}
use Rattle.dp_files.specs.ContextLines.{made_line, remark_on}
use Rattle.dp_files.specs.ContextSteps.{all_made_after, history_in}
use Rattle.dp_files.specs.declared.context_text.ContextReader.{ContextReader}
use Rattle.dp_files.specs.declared.remark.LineRemark.{LineRemark}
use Rattle.dp_files.specs.declared.remark.RemarkKind.{RemarkKind}
use Rattle.dp_files.specs.declared.source_line.MadeLine.{MadeLine}

-- the line with a text, if there is one
abbrev pub line_of : ℕ → Option (List ℕ) → List MadeLine
line_of place text = option_to_list (option_map (λ t. record { source = place; text = t }) text)

-- a remark of this kind, if there is one
abbrev pub remark_of : ℕ → Option RemarkKind → List LineRemark
remark_of place kind = option_to_list (option_map (λ k. record { source = place; kind = k }) kind)

-- the results so far with those of the remaining lines, given the history before them
abbrev pub told_by : List MadeLine → List LineRemark → LineHistoryOf → List (ℕ × List ℕ) → List MadeLine × List LineRemark
told_by lines remarks history rest =
    (lines ++ flat_map made_line (all_made_after history rest), remarks ++ flat_map remark_on (all_made_after history rest))

-- the results of a reader
abbrev pub results_of_reader : ContextReader → List (ℕ × List ℕ) → List MadeLine × List LineRemark
results_of_reader reader rest = told_by reader.text.lines.items reader.text.remarks.items (history_in reader.history) rest
