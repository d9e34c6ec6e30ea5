-- How differences are printed.
use Rattle.std.specs.Prelude.{ℕ, List, [], ◌++◌, Option, None, Some, codes, decimal}
use Rattle.std.specs.List.{flat_map}
use Rattle.dp_pattern.specs.Spelling.{spelling}
use Rattle.dp_plan.specs.declared.entry.Entry.{Entry}
use Rattle.dp_diff.specs.Differences.{Difference}

-- a sign and the position of an entry, `CONTEXT,NAME,PRIORITY`, with its name in the canonical spelling
abbrev pub position_text : List ℕ → List ℕ → Entry → List ℕ
position_text sign context entry = sign ++ context ++ codes "," ++ spelling entry.name ++ codes "," ++ decimal entry.priority

-- the application of an entry with its arguments, `APP(ARGUMENTS)`
abbrev pub application_text : Entry → List ℕ
application_text entry = entry.application ++ codes "(" ++ entry.arguments ++ codes ")"

-- the line of an entry after a sign, `CONTEXT,NAME,PRIORITY APP(ARGUMENTS)`
abbrev pub entry_line : List ℕ → List ℕ → Entry → List ℕ
entry_line sign context entry = position_text sign context entry ++ codes " " ++ application_text entry ++ codes "\n"

-- the line of an entry, if there is one
abbrev pub line_of : List ℕ → List ℕ → Option Entry → List ℕ
line_of sign context None = []
line_of sign context (Some entry) = entry_line sign context entry

-- the lines of a difference: what answered before, and what answers after the change
abbrev pub difference_lines : Difference → List ℕ
difference_lines d = line_of (codes "- ") d.context d.before ++ line_of (codes "+ ") d.context d.after

-- the lines of differences, one after another
unfoldable pub text_of : List Difference → List ℕ
text_of differences = flat_map difference_lines differences
