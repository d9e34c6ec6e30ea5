-- The lines made from the lines of the section `[general]`, and the remarks on them.
use Rattle.std.specs.Prelude.{ℕ, Bool, false, not, ◌&&◌, ◌||◌, List, map, Option, Some, None, codes, if◌then◌else◌}
use Rattle.std.specs.List.{flat_map}
use Rattle.std.specs.Str.{byte}
use Rattle.dp_conf.specs.Blanks.{trim}
use Rattle.dp_conf.specs.Cut.{cut_once}
use Rattle.dp_conf.specs.Lines.{after_sign, content_of}
use Rattle.dp_conf.specs.Words.{same_word}
use Rattle.dp_files.specs.ContextLines.{made_line, remark_on}
use Rattle.dp_files.specs.declared.line_reading.LineResult.{LineResult}
use Rattle.dp_files.specs.declared.remark.LineNote.TheVariants.{AutoFallThrough}
use Rattle.dp_files.specs.declared.remark.LineRemark.{LineRemark}
use Rattle.dp_files.specs.declared.remark.RemarkKind.TheVariants.{Note}
use Rattle.dp_files.specs.declared.source_line.MadeLine.{MadeLine}

-- a value that Asterisk takes as true
abbrev pub is_true_word : List ℕ → Bool
is_true_word value =
    same_word value (codes "yes") || same_word value (codes "true") || same_word value (codes "y")
    || same_word value (codes "t") || same_word value (codes "1") || same_word value (codes "on")

-- the setting after which calls do not end when nothing is left to run
abbrev pub turns_off : List ℕ → List ℕ → Bool
turns_off key value = same_word key (codes "autofallthrough") && not (is_true_word value)

-- a line cut at the first `=`: a key and its value, after a `>` that belongs to the sign
abbrev pub turns_off_by : Option (List ℕ × List ℕ) → Bool
turns_off_by None = false
turns_off_by (Some cut) = turns_off (trim cut.0) (trim (after_sign cut.1))

-- a line: that setting is left out with a note, and everything else is unchanged
unfoldable pub general_made : List ℕ → LineResult
general_made line =
    if turns_off_by (cut_once (byte "=") (content_of line)) then record { text = None; remark = Some (Note AutoFallThrough) }
    else record { text = Some line; remark = None }

-- the result of each line
abbrev pub all_general_made : List (ℕ × List ℕ) → List (ℕ × LineResult)
all_general_made lines = map (λ (line : ℕ × List ℕ). (line.0, general_made line.1)) lines

-- the lines made from the lines of a section, in order
abbrev pub general_lines : List (ℕ × List ℕ) → List MadeLine
general_lines lines = flat_map made_line (all_general_made lines)

-- the remarks on the lines of a section, in order
abbrev pub general_remarks : List (ℕ × List ℕ) → List LineRemark
general_remarks lines = flat_map remark_on (all_general_made lines)
