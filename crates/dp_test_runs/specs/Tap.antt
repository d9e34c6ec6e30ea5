-- The text of results in the Test Anything Protocol, version 14.
use Rattle.std.specs.Prelude.{ℕ, ◌+◌, Bool, ◌||◌, ◌==◌, List, [], ◌∷◌, ◌++◌, length, Option, Some, None, codes, decimal, if◌then◌else◌}
use Rattle.std.specs.List.{flat_map}
use Rattle.dp_test_runs.specs.declared.tap.Point.{Point}
use Rattle.dp_test_runs.specs.declared.tap.FailureReport.{FailureReport}

-- a line with this text
abbrev pub line_of : List ℕ → List ℕ
line_of text = text ++ 10 ∷ []

-- a byte between single quotes: a quote is written twice
abbrev pub quoted_byte : ℕ → List ℕ
quoted_byte byte = if byte == 39 then 39 ∷ 39 ∷ [] else byte ∷ []

-- a text in single quotes
abbrev pub quoted_text : List ℕ → List ℕ
quoted_text text = 39 ∷ [] ++ flat_map quoted_byte text ++ 39 ∷ []

-- a byte of a name: `#` and `\` have a `\` before them
abbrev pub name_byte : ℕ → List ℕ
name_byte byte = if byte == 35 || byte == 92 then 92 ∷ byte ∷ [] else byte ∷ []

-- a key and its text, on a line of its own
abbrev pub key_line : List ℕ → List ℕ → List ℕ
key_line key text = codes "  " ++ key ++ codes ": " ++ quoted_text text ++ 10 ∷ []

-- a line of a trace
abbrev pub trace_line : List ℕ → List ℕ
trace_line text = codes "    - " ++ quoted_text text ++ 10 ∷ []

-- the lines of a trace below their key
abbrev pub trace_lines : List (List ℕ) → List ℕ
trace_lines [] = line_of (codes "  trace: []")
trace_lines (text ∷ texts) = line_of (codes "  trace:") ++ flat_map trace_line (text ∷ texts)

-- the place, what was expected, and what came of it
abbrev pub keys_text : FailureReport → List ℕ
keys_text report =
    key_line (codes "at") report.at ++ key_line (codes "expected") report.expected ++ key_line (codes "got") report.got

-- the first lines of the block below a test that failed
abbrev pub block_head : FailureReport → List ℕ
block_head report = line_of (codes "  ---") ++ keys_text report

-- its last lines
abbrev pub block_end : FailureReport → List ℕ
block_end report = trace_lines report.trace ++ line_of (codes "  ...")

-- the block below a test that failed
abbrev pub block_text : FailureReport → List ℕ
block_text report = block_head report ++ block_end report

-- the line of a test with a number, after the word that says whether it passes
abbrev pub point_line : List ℕ → ℕ → List ℕ → List ℕ
point_line word number name = word ++ codes " " ++ decimal number ++ codes " - " ++ flat_map name_byte name ++ 10 ∷ []

-- the lines of a test with a number
abbrev pub point_by : ℕ → List ℕ → Option FailureReport → List ℕ
point_by number name None = point_line (codes "ok") number name
point_by number name (Some report) = point_line (codes "not ok") number name ++ block_text report

-- a line of a comment
abbrev pub comment_line : List ℕ → List ℕ
comment_line text = codes "# " ++ line_of text

-- the trace of a test as comments, if traces are shown
abbrev pub whole_trace : Bool → List (List ℕ) → List ℕ
whole_trace shows_traces texts = if shows_traces then flat_map comment_line texts else []

-- the lines of a test with a number, below its trace if traces are shown
abbrev pub told_point : Bool → ℕ → Point → List ℕ
told_point shows_traces number point = whole_trace shows_traces point.trace ++ point_by number point.name point.report

-- the lines of tests, of which the first has this number
abbrev pub points_from : Bool → ℕ → List Point → List ℕ
points_from shows_traces number [] = []
points_from shows_traces number (point ∷ points) = told_point shows_traces number point ++ points_from shows_traces (number + 1) points

-- how many tests there are
abbrev pub count_text : ℕ → List ℕ
count_text count = codes "1.." ++ decimal count ++ 10 ∷ []

-- the version and the plan
abbrev pub plan_text : ℕ → List ℕ
plan_text count = line_of (codes "TAP version 14") ++ count_text count

-- the version and the plan, and the lines of all tests
unfoldable pub tap_text : Bool → List Point → List ℕ
tap_text shows_traces points = plan_text (length points) ++ points_from shows_traces 1 points
