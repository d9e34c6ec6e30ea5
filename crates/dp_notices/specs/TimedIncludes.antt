-- Reading includes with times at a moment.
use Rattle.std.specs.Prelude.{ℕ, ◌-◌, Bool, true, false, List, [], ◌++◌, fold, Option, Some, None, codes, if◌then◌else◌}
use Rattle.std.specs.Option.{option_map_or}
use Rattle.std.specs.Str.{byte}
use Rattle.dp_conf.specs.Blanks.{trim}
use Rattle.dp_conf.specs.Changes.{changed_at}
use Rattle.dp_conf.specs.Cut.{cut_once}
use Rattle.dp_conf.specs.Escape.{escape_text}
use Rattle.dp_conf.specs.Levels.{arguments_of}
use Rattle.dp_conf.specs.Lines.{after_sign, content_of}
use Rattle.dp_files.specs.DialplanText.{text_of}
use Rattle.dp_files.specs.declared.remark.Fault.{Fault}
use Rattle.dp_files.specs.declared.remark.Fault.TheVariants.{IncludeDepth, NotFound, TooLong, Line, OldForm, NoClock}
use Rattle.dp_files.specs.declared.source_line.MadeLine.{MadeLine}
use Rattle.dp_notices.specs.Loading.{faults_in_text}
use Rattle.dp_notices.specs.declared.loading.NumberedNotice.{NumberedNotice}
use Rattle.dp_notices.specs.declared.notice.Notice.{Notice}
use Rattle.dp_notices.specs.declared.notice.Notice.TheVariants.{Read, Loaded, Queue as queue_note, Fault as fault_notice}
use Rattle.dp_notices.specs.declared.notice.NoticeFault.{NoticeFault}
use Rattle.dp_notices.specs.declared.notice.NoticeFault.TheVariants.{Reading, Name, Plan, Queue as queue_fault}
use Rattle.dp_wide.specs.TimeChoice.{lies_in_parts}
use Rattle.dp_wide.specs.declared.times.Moment.{Moment}

-- ---- the line of an include with times

-- the value of a content `KEY=VALUE` or `KEY=>VALUE`; it is empty for any other content
abbrev pub value_in : List ℕ → List ℕ
value_in content = option_map_or (λ cut. trim (after_sign cut.1)) (cut_once (byte "=") content) []

-- the line that includes a context at all times
abbrev pub include_text : List ℕ → List ℕ
include_text name = codes "include => " ++ escape_text name

-- the line that includes a context if a moment is in its times; otherwise the line is empty
abbrev pub text_within : Moment → List ℕ → List ℕ → List ℕ
text_within moment name times = if lies_in_parts (arguments_of times) moment then include_text (trim name) else []

-- the same, given `CONTEXT,TIMES,WEEKDAYS,DAYS,MONTHS` cut at its first comma
abbrev pub text_by : Moment → Option (List ℕ × List ℕ) → List ℕ
text_by moment None = []
text_by moment (Some cut) = text_within moment cut.0 cut.1

-- the same, given the line with its times
abbrev pub text_at : Moment → List ℕ → List ℕ
text_at moment text = text_by moment (cut_once (byte ",") (value_in (content_of text)))

-- the same for a line of the text
abbrev pub line_at : Moment → MadeLine → MadeLine
line_at moment line = record { source = line.source; text = text_at moment line.text }

-- ---- the lines of a text

-- whether a fault of the file reader says that no moment is given
abbrev pub is_no_clock : Fault → Bool
is_no_clock IncludeDepth = false
is_no_clock NotFound = false
is_no_clock TooLong = false
is_no_clock (Line kind) = false
is_no_clock OldForm = false
is_no_clock NoClock = true

-- the same for any fault
abbrev pub is_timed_fault : NoticeFault → Bool
is_timed_fault (Reading fault) = is_no_clock fault
is_timed_fault (Name fault) = false
is_timed_fault (Plan kind) = false
is_timed_fault (queue_fault kind) = false

-- the same for a notice: its line is an include with times
abbrev pub is_timed : Notice → Bool
is_timed (Read note) = false
is_timed (Loaded kind) = false
is_timed (queue_note note) = false
is_timed (fault_notice fault) = is_timed_fault fault

-- the line of a fault is read at a moment, if it is an include with times
abbrev pub with_time_of : Moment → List MadeLine → NumberedNotice → List MadeLine
with_time_of moment lines fault =
    if is_timed fault.notice then changed_at (line_at moment) (fault.line - 1) lines else lines

-- the lines of some faults are read in the same way
abbrev pub with_times_of : Moment → List NumberedNotice → List MadeLine → List MadeLine
with_times_of moment faults lines = fold (with_time_of moment) lines faults

-- each include with times is read at a moment, if one is given
unfoldable pub with_times : Option Moment → List MadeLine → List MadeLine
with_times None lines = lines
with_times (Some moment) lines = with_times_of moment (faults_in_text (text_of lines)) lines
