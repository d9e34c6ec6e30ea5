-- The lines of a dialplan as they are loaded: names with groups are expanded, includes with times are read at a moment, and the ends of
-- macros are added.
use Rattle.std.specs.Prelude.{Bool, false, List, ◌++◌, Option, Result, Ok, Err}
use Rattle.std.specs.List.{list_any}
use Rattle.dp_files.specs.DialplanText.{text_of}
use Rattle.dp_files.specs.declared.source_line.MadeLine.{MadeLine}
use Rattle.dp_notices.specs.GroupNames.{name_notices, named_lines}
use Rattle.dp_notices.specs.Loading.{LoadedOf, faults_in_text, loaded_lines}
use Rattle.dp_notices.specs.MacroEnds.{faultless, is_macro, with_ends}
use Rattle.dp_notices.specs.TimedIncludes.{is_timed, with_times}
use Rattle.dp_notices.specs.declared.line_notices.NoticeAt.{NoticeAt}
use Rattle.dp_plan.specs.Contexts.{PlanContext}
use Rattle.dp_plan.specs.Loaded.{plan_and_notes}
use Rattle.dp_plan.specs.declared.fault.LoadFault.{LoadFault}
use Rattle.dp_plan.specs.declared.note.Note.{Note}
use Rattle.dp_plan.specs.Plan.{PlanOf}
use Rattle.dp_wide.specs.declared.times.Moment.{Moment}

-- the lines that are loaded, given a moment
abbrev pub prepared_lines : Option Moment → List MadeLine → List MadeLine
prepared_lines clock lines = with_ends (with_times clock (named_lines lines))

-- these notices come before those of the loader
abbrev pub with_notices : List NoticeAt → LoadedOf → LoadedOf
with_notices notices loaded = record { lines = loaded.lines; notices = notices ++ loaded.notices; counts = loaded.counts }

-- what lines load as after this preparation, with the notices on names before those of the loader
abbrev pub prepared_plan : Option Moment → List MadeLine → LoadedOf
prepared_plan clock lines = with_notices (name_notices lines) (loaded_lines (prepared_lines clock lines))

-- whether some line is an include with times
abbrev pub has_times : List MadeLine → Bool
has_times lines = list_any (λ fault. is_timed fault.notice) (faults_in_text (text_of lines))

-- whether some context is a macro
abbrev pub has_macro : List PlanContext → Bool
has_macro contexts = list_any (λ context. is_macro context.name) contexts

-- whether a text loads with a macro
abbrev pub loads_macro : Result (PlanOf × List Note) LoadFault → Bool
loads_macro (Ok read) = has_macro read.0.contexts
loads_macro (Err fault) = false

-- whether the lines have a macro, without those that have a fault
abbrev pub has_macros : List MadeLine → Bool
has_macros lines = loads_macro (plan_and_notes (text_of (faultless lines)))
