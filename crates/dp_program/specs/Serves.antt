-- The output and result of a request, given what is known of the files and of the input that it reads.
use Rattle.std.specs.Prelude.{ℕ, Bool, true, false, List, max, Option, Some, None, Result, Ok, Err, IfOk}
use Rattle.std.specs.Option.{option_map}
use Rattle.dp_board.specs.Log.{Log}
use Rattle.dp_conf.specs.Answers.{◌>>=◌}
use Rattle.dp_commands.specs.Audit.{Audited, WritesAudit, audit_of}
use Rattle.dp_commands.specs.Candidates.{match_all_of}
use Rattle.dp_commands.specs.Debug.{DebugRun, WritesDebug, debug_of}
use Rattle.dp_commands.specs.Joined.{joined_run}
use Rattle.dp_commands.specs.LinePlaces.{PlacesOfLines}
use Rattle.dp_commands.specs.Report.{Reports, list_of, match_of}
use Rattle.dp_commands.specs.Run.{Run, Writes, run_of}
use Rattle.dp_commands.specs.Threads.{Shares}
use Rattle.dp_commands.specs.Verbose.{InForce, WritesVerbose, WritesVerboseDebug, first_in_force, first_in_force_at}
use Rattle.dp_commands.specs.declared.fault.PbxFault.{PbxFault}
use Rattle.dp_program.specs.Checks.{both_report, check_by, queues_report}
use Rattle.dp_program.specs.Dialplans.{PlanTextOf, ReadsDialplan, moment_in, places_in, with_text}
use Rattle.dp_program.specs.ReachDiffs.{ReachDiffsFiles, ReachDiffsIncluding}
use Rattle.dp_program.specs.Diffs.{DiffsFiles}
use Rattle.dp_program.specs.Entries.{entry_of, explanation_of}
use Rattle.dp_program.specs.Faulted.{StandsIn, in_none, place_of_report, place_of_run, place_of_two, without_place}
use Rattle.dp_program.specs.Files.{ByteSource, Reads, has_read_failed}
use Rattle.dp_program.specs.Graphs.{GraphsFiles, GraphsIncluding}
use Rattle.dp_program.specs.Hints.{Tells, TellsNothing, audit_hint_of, match_hint_of, status_in}
use Rattle.dp_program.specs.Including.{ChecksBothIncluding, ChecksIncluding, ChecksQueuesIncluding}
use Rattle.dp_program.specs.JsonAudits.{WritesJsonChoice, audit_json_of}
use Rattle.dp_program.specs.JsonMatches.{match_json_of}
use Rattle.dp_program.specs.PlanQuestions.{OverBothIncluded, Serving}
use Rattle.dp_program.specs.QueueTexts.{ReadsQueues}
use Rattle.dp_table.specs.Standard.{standard_meanings}
use Rattle.dp_program.specs.Reaches.{ReachesFiles, ReachesIncluding}
use Rattle.dp_program.specs.Requests.{OptionsOf, RequestOf, LookupOf, joined, check, check_files, check_queue_files, check_both_files, check_queues, check_both, listing, listing_files, auditing, auditing_by, matching, matching_files, explaining, run, run_wide, debug, debug_wide, testing, comparing, comparing_files, comparing_reach, comparing_reach_files, drawing, drawing_files, reaching, reaching_files}
use Rattle.dp_program.specs.TestSuites.{TestsFiles, manner_of}
use Rattle.dp_notices.specs.declared.printing.Assumptions.{Assumptions}
use Rattle.dp_program.specs.ScriptAssumptions.{look_up_use, text_assumptions}
use Rattle.dp_program.specs.Texts.{OfRun, ReadsTexts, all_texts, sources_of}
use Rattle.dp_program.specs.declared.dialplans.PlanUse.TheVariants.{Report, Run as to_run}
use Rattle.dp_program.specs.declared.fault_places.Faulted.{Faulted}
use Rattle.dp_program.specs.declared.hints.ServedRequest.{ServedRequest}
use Rattle.dp_plan.specs.Plan.{PlanOf}
use Rattle.dp_unmodelled.specs.Report.{unmodelled_of}
use Rattle.dp_wide_runs.specs.Debugging.{HasSameStatus, WideDebug, WritesWideDebug, WritesWideVerboseDebug, wide_debug_of}
use Rattle.dp_wide_runs.specs.Kinds.{ChoiceOf}
use Rattle.dp_wide_runs.specs.Runs.{IsPlain, WideRun, WritesWide, run_of as wide_run_of}
use Rattle.dp_wide_runs.specs.WideAudits.{WritesChoice, plan_of}
use Rattle.dp_wide_runs.specs.Verbose.{HasPlainStatus, WritesWideVerbose}

-- the output and result of a report on the text of the file at a path, and the place of its fault
abbrev pub ReportsOn : List ℕ → ByteSource → (List ℕ → Result (List ℕ) PbxFault) → Option (List ℕ) → Option (List ℕ) → Result ℕ Faulted → Type 0
ReportsOn path file report old new answered =
    Reads file (λ text. Reports old new (text >>= report) (without_place answered) × StandsIn (place_of_report path text) answered)

-- the report of an audit of a dialplan's text, given whether it is JSON
abbrev pub audit_by : Bool → List ℕ → Result Audited PbxFault
audit_by true plan = audit_json_of plan
audit_by false plan = audit_of plan

-- the output and result of an audit of the dialplan in a file, the place of its fault, and the hint beside its result
abbrev pub AuditsFile : Bool → List ℕ → ByteSource → Option (List ℕ) → Option (List ℕ) → Result ServedRequest Faulted → Type 0
AuditsFile is_json path file old new answered =
    Reads file (λ text. WritesAudit old new (text >>= audit_by is_json) (status_in (without_place answered)) × StandsIn (place_of_report path text) answered
    × Tells (text >>= audit_hint_of path) answered)

-- the output and result of an audit of some kinds of findings, or over the wide table, given whether it is JSON, and the dialplan or the
-- fault of its text
abbrev pub WritesChoiceBy : Bool → ChoiceOf → Option (List ℕ) → Option (List ℕ) → Result PlanOf PbxFault → Result ℕ PbxFault → Type 0
WritesChoiceBy true choice old new given result = WritesJsonChoice choice old new given result
WritesChoiceBy false choice old new given result = WritesChoice choice old new given result

-- the same for the dialplan in a file, with the place of its fault and the hint beside its result
abbrev pub AuditsFileBy : Bool → ChoiceOf → List ℕ → ByteSource → Option (List ℕ) → Option (List ℕ) → Result ServedRequest Faulted → Type 0
AuditsFileBy is_json choice path file old new answered =
    Reads file (λ text. WritesChoiceBy is_json choice old new (text >>= plan_of) (status_in (without_place answered))
    × StandsIn (place_of_report path text) answered × Tells (text >>= audit_hint_of path) answered)

-- the output and result of a run of a joined text, without the place of its fault
abbrev pub RunsInput : ByteSource → Option (List ℕ) → Option (List ℕ) → Result ℕ PbxFault → Type 0
RunsInput input old new result = Reads input (λ text. Writes old new (text >>= joined_run) result)

-- the same; its fault has no place in a file
abbrev pub RunsJoined : ByteSource → Option (List ℕ) → Option (List ℕ) → Result ℕ Faulted → Type 0
RunsJoined input old new answered = RunsInput input old new (without_place answered) × StandsIn (λ _. in_none) answered

-- the output and result of a check of the dialplan at one path and of the queues at another, and the place of its fault
abbrev pub ChecksBoth : (List ℕ → ByteSource) → List ℕ → List ℕ → Bool → Bool → Option (List ℕ) → Option (List ℕ) → Result ℕ Faulted → Type 0
ChecksBoth files path queues_path is_json explains old new answered =
    Reads (files path) (λ plan. Reads (files queues_path) (λ queues.
    Reports old new (plan >>= λ plan. queues >>= λ queues. both_report is_json explains path plan queues) (without_place answered)
    × StandsIn (place_of_two path queues_path plan queues) answered))

-- the status of a run in threads that has some history
pub record EndsWith (count : ℕ) (old new : Option (List ℕ)) (ran : Result Run PbxFault) (status : ℕ) : Type 0 where
  pub history : Log
  pub shares : Shares count old new ran (Ok (status, history))

-- the output and result of a run in threads, without its history
abbrev pub SharesSome : ℕ → Option (List ℕ) → Option (List ℕ) → Result Run PbxFault → Result ℕ PbxFault → Type 0
SharesSome count old new ran (Ok status) = EndsWith count old new ran status
SharesSome count old new ran (Err fault) = Shares count old new ran (Err fault)

-- the output and result of a run, in threads if their number is given
abbrev pub Runs : Option ℕ → Option (List ℕ) → Option (List ℕ) → Result Run PbxFault → Result ℕ PbxFault → Type 0
Runs None old new ran result = Writes old new ran result
Runs (Some threads) old new ran result = SharesSome (max 1 threads) old new ran result

-- the report on a look-up in a dialplan's text, given whether it is JSON: the entry that answers and, if all are asked for, what decides
-- about each extension
abbrev pub look_up : Bool → LookupOf → Bool → List ℕ → Result (List ℕ) PbxFault
look_up true lookup all plan = match_json_of lookup all plan
look_up false lookup false plan = match_of plan lookup.context lookup.text lookup.priority
look_up false lookup true plan = match_all_of plan lookup.context lookup.text lookup.priority

-- the output and result of a look-up in the dialplan of its file, the place of its fault, and the hint beside its result
abbrev pub LooksUp : LookupOf → ByteSource → Bool → OptionsOf → Option (List ℕ) → Option (List ℕ) → Result ServedRequest Faulted → Type 0
LooksUp lookup file all options old new answered =
    Reads file (λ text. Reports old new (text >>= look_up options.is_json lookup all) (status_in (without_place answered))
    × StandsIn (place_of_report lookup.file text) answered × Tells (text >>= match_hint_of lookup options.explains) answered)

-- the run of the texts of its files
abbrev pub run_of_texts : OfRun (List ℕ) → Result Run PbxFault
run_of_texts texts = run_of texts.plan texts.queues texts.second_plan texts.script

-- the debugged run of these texts, with the break that a text names
abbrev pub debug_of_texts : List ℕ → OfRun (List ℕ) → Result DebugRun PbxFault
debug_of_texts held texts = debug_of (run_of_texts texts) held

-- the output and result of a run over the files at these paths, and the place of its fault
abbrev pub RunsFiles : OfRun (List ℕ) → OfRun ByteSource → Option ℕ → Option (List ℕ) → Option (List ℕ) → Result ℕ Faulted → Type 0
RunsFiles paths sources threads old new answered =
    ReadsTexts sources (λ read. Runs threads old new (all_texts read >>= run_of_texts) (without_place answered) × StandsIn (place_of_run paths read) answered)

-- the same for a debugged run
abbrev pub DebugsFiles : OfRun (List ℕ) → OfRun ByteSource → List ℕ → Option (List ℕ) → Option (List ℕ) → Result ℕ Faulted → Type 0
DebugsFiles paths sources held old new answered =
    ReadsTexts sources (λ read. WritesDebug old new (all_texts read >>= debug_of_texts held) (without_place answered) × StandsIn (place_of_run paths read) answered)

-- the dialplan in force before the first event of a run, given its paths and its texts
abbrev pub in_force_at_first : OfRun (List ℕ) → OfRun (List ℕ) → InForce
in_force_at_first paths texts = first_in_force paths.plan paths.second_plan texts.plan

-- the output and result of a verbose run, given its texts or the fault with which they were not read
abbrev pub RunsVerbosely : OfRun (List ℕ) → Option (List ℕ) → Option (List ℕ) → Result (OfRun (List ℕ)) PbxFault → Result ℕ PbxFault → Type 0
RunsVerbosely paths old new (Ok texts) result = WritesVerbose explanation_of (in_force_at_first paths texts) old new (run_of_texts texts) result
RunsVerbosely paths old new (Err fault) result = Writes old new (Err fault) result

-- the same for a debugged run
abbrev pub DebugsVerbosely : OfRun (List ℕ) → List ℕ → Option (List ℕ) → Option (List ℕ) → Result (OfRun (List ℕ)) PbxFault → Result ℕ PbxFault → Type 0
DebugsVerbosely paths held old new (Ok texts) result =
    WritesVerboseDebug explanation_of (in_force_at_first paths texts) old new (debug_of_texts held texts) result
DebugsVerbosely paths held old new (Err fault) result = WritesDebug old new (Err fault) result

-- the lines of what a run of these texts meets that is not modelled, or the fault of the texts
abbrev pub unmodelled_of_texts : OfRun (List ℕ) → Result (List ℕ) PbxFault
unmodelled_of_texts texts = unmodelled_of texts.plan texts.queues texts.second_plan texts.script

-- the output and result of a run, verbose or not, given its texts or the fault with which they were not read
abbrev pub RunsRead : Bool → OfRun (List ℕ) → Option (List ℕ) → Option (List ℕ) → Result (OfRun (List ℕ)) PbxFault → Result ℕ PbxFault → Type 0
RunsRead true paths old new read result = RunsVerbosely paths old new read result
RunsRead false paths old new read result = Runs None old new (read >>= run_of_texts) result

-- the same over the files at these paths, with the place of its fault, and beside its result the lines of what it meets that is not modelled
abbrev pub RunsReported : OfRun (List ℕ) → OfRun ByteSource → Bool → Option (List ℕ) → Option (List ℕ) → Result ServedRequest Faulted → Type 0
RunsReported paths sources is_verbose old new answered =
    ReadsTexts sources (λ read. RunsRead is_verbose paths old new (all_texts read) (status_in (without_place answered)) × StandsIn (place_of_run paths read) answered
    × Tells (all_texts read >>= unmodelled_of_texts) answered)

-- the output and result of a verbose debugged run over the files at these paths, and the place of its fault
abbrev pub DebugsFilesVerbosely : OfRun (List ℕ) → OfRun ByteSource → List ℕ → Option (List ℕ) → Option (List ℕ) → Result ℕ Faulted → Type 0
DebugsFilesVerbosely paths sources held old new answered =
    ReadsTexts sources (λ read. DebugsVerbosely paths held old new (all_texts read) (without_place answered) × StandsIn (place_of_run paths read) answered)

-- the run of the texts of its files over the wide table
abbrev pub wide_run_of_texts : OfRun (List ℕ) → Result WideRun PbxFault
wide_run_of_texts texts = wide_run_of texts.plan texts.queues texts.second_plan texts.script

-- the output and result of such a run; if it ends with status 0, nothing was left out
abbrev pub RunsWide : Option (List ℕ) → Option (List ℕ) → Result WideRun PbxFault → Result ℕ PbxFault → Type 0
RunsWide old new given result = WritesWide old new given result × IfOk result (IsPlain given)

-- the output and result of such a run over the files at these paths, and the place of its fault
abbrev pub RunsFilesWide : OfRun (List ℕ) → OfRun ByteSource → Option (List ℕ) → Option (List ℕ) → Result ℕ Faulted → Type 0
RunsFilesWide paths sources old new answered =
    ReadsTexts sources (λ read. RunsWide old new (all_texts read >>= wide_run_of_texts) (without_place answered) × StandsIn (place_of_run paths read) answered)

-- the output and result of a verbose run over the wide table, given the dialplan that is first in force: its status is that of the run
-- without verbose output, and if it ends with status 0, nothing was left out
abbrev pub RunsWideVerbosely : InForce → Option (List ℕ) → Option (List ℕ) → Result WideRun PbxFault → Result ℕ PbxFault → Type 0
RunsWideVerbosely in_force old new given result =
    WritesWideVerbose explanation_of in_force old new given result × IfOk result (HasPlainStatus given) × IfOk result (IsPlain given)

-- where the lines of a run's dialplans come from
pub record PlacesOf : Type 0 where
  pub plan : PlacesOfLines
  pub second_plan : Option PlacesOfLines

-- the dialplan in force before the first event of such a run, given its texts
abbrev pub in_force_at : PlacesOf → OfRun (List ℕ) → InForce
in_force_at places texts = first_in_force_at places.plan places.second_plan texts.plan

-- the output and result of such a run, given its texts or the fault with which they were not read
abbrev pub RunsTextsWideVerbosely : PlacesOf → Option (List ℕ) → Option (List ℕ) → Result (OfRun (List ℕ)) PbxFault → Result ℕ PbxFault → Type 0
RunsTextsWideVerbosely places old new (Ok texts) result = RunsWideVerbosely (in_force_at places texts) old new (wide_run_of_texts texts) result
RunsTextsWideVerbosely places old new (Err fault) result = WritesWide old new (Err fault) result

-- the output and result of such a run over the files at these paths, and the place of its fault
abbrev pub RunsFilesWideVerbosely : OfRun (List ℕ) → PlacesOf → OfRun ByteSource → Option (List ℕ) → Option (List ℕ) → Result ℕ Faulted → Type 0
RunsFilesWideVerbosely paths places sources old new answered =
    ReadsTexts sources (λ read. RunsTextsWideVerbosely places old new (all_texts read) (without_place answered) × StandsIn (place_of_run paths read) answered)

-- the debugged run of these texts over the wide table, with the break that a text names
abbrev pub wide_debug_of_texts : List ℕ → OfRun (List ℕ) → Result WideDebug PbxFault
wide_debug_of_texts held texts = wide_debug_of (wide_run_of_texts texts) held

-- the output and result of such a run: its status is that of the run without a break
abbrev pub DebugsWide : Option (List ℕ) → Option (List ℕ) → Result WideDebug PbxFault → Result ℕ PbxFault → Type 0
DebugsWide old new given result = WritesWideDebug old new given result × IfOk result (HasSameStatus given)

-- the output and result of such a run over the files at these paths, and the place of its fault
abbrev pub DebugsFilesWide : OfRun (List ℕ) → OfRun ByteSource → List ℕ → Option (List ℕ) → Option (List ℕ) → Result ℕ Faulted → Type 0
DebugsFilesWide paths sources held old new answered =
    ReadsTexts sources (λ read. DebugsWide old new (all_texts read >>= wide_debug_of_texts held) (without_place answered) × StandsIn (place_of_run paths read) answered)

-- the output and result of a verbose debugged run over the wide table, given the dialplan that is first in force
abbrev pub DebugsWideVerbosely : InForce → Option (List ℕ) → Option (List ℕ) → Result WideDebug PbxFault → Result ℕ PbxFault → Type 0
DebugsWideVerbosely in_force old new given result =
    WritesWideVerboseDebug explanation_of in_force old new given result × IfOk result (HasSameStatus given)

-- the output and result of such a run, given its texts or the fault with which they were not read
abbrev pub DebugsTextsWideVerbosely : PlacesOf → List ℕ → Option (List ℕ) → Option (List ℕ) → Result (OfRun (List ℕ)) PbxFault → Result ℕ PbxFault → Type 0
DebugsTextsWideVerbosely places held old new (Ok texts) result =
    DebugsWideVerbosely (in_force_at places texts) old new (wide_debug_of_texts held texts) result
DebugsTextsWideVerbosely places held old new (Err fault) result = WritesWideDebug old new (Err fault) result

-- the output and result of such a run over the files at these paths, and the place of its fault
abbrev pub DebugsFilesWideVerbosely : OfRun (List ℕ) → PlacesOf → OfRun ByteSource → List ℕ → Option (List ℕ) → Option (List ℕ) → Result ℕ Faulted → Type 0
DebugsFilesWideVerbosely paths places sources held old new answered =
    ReadsTexts sources (λ read. DebugsTextsWideVerbosely places held old new (all_texts read) (without_place answered) × StandsIn (place_of_run paths read) answered)

-- how a script runs over the wide table: whether verbosely, and the text of the break if the run is debugged
pub record RunManner : Type 0 where
  pub is_verbose : Bool
  pub held : Option (List ℕ)

-- a run that is not debugged
abbrev pub running : Bool → RunManner
running is_verbose = record { is_verbose = is_verbose; held = None }

-- a run that is debugged with the break that a text names
abbrev pub debugging : List ℕ → Bool → RunManner
debugging held is_verbose = record { is_verbose = is_verbose; held = Some held }

-- the output and result of a run over the wide table, given the text of its break and whether it is verbose
abbrev pub RunsWideBy : OfRun (List ℕ) → PlacesOf → OfRun ByteSource → Option (List ℕ) → Bool → Option (List ℕ) → Option (List ℕ) → Result ℕ Faulted → Type 0
RunsWideBy paths places sources None true old new answered = RunsFilesWideVerbosely paths places sources old new answered
RunsWideBy paths places sources None false old new answered = RunsFilesWide paths sources old new answered
RunsWideBy paths places sources (Some held) true old new answered = DebugsFilesWideVerbosely paths places sources held old new answered
RunsWideBy paths places sources (Some held) false old new answered = DebugsFilesWide paths sources held old new answered

-- the same, given how the script runs
abbrev pub RunsWideAsked : OfRun (List ℕ) → PlacesOf → OfRun ByteSource → RunManner → Option (List ℕ) → Option (List ℕ) → Result ℕ Faulted → Type 0
RunsWideAsked paths places sources manner old new answered = RunsWideBy paths places sources manner.held manner.is_verbose old new answered

-- the output and result of a debugged run, given whether it is verbose
abbrev pub DebugsAsked : OfRun (List ℕ) → OfRun ByteSource → List ℕ → Bool → Option (List ℕ) → Option (List ℕ) → Result ℕ Faulted → Type 0
DebugsAsked paths sources held true old new answered = DebugsFilesVerbosely paths sources held old new answered
DebugsAsked paths sources held false old new answered = DebugsFiles paths sources held old new answered

-- the output and result for the entry of a fault
abbrev pub WritesEntry : ℕ → Option (List ℕ) → Option (List ℕ) → Result ℕ Faulted → Type 0
WritesEntry fault old new answered = Reports old new (Ok (entry_of fault)) (without_place answered) × StandsIn (λ _. in_none) answered

-- the output and result of a request without hints
abbrev pub Quietly : (Result ℕ Faulted → Type 0) → Result ServedRequest Faulted → Type 0
Quietly serves answered = serves (status_in answered) × TellsNothing answered

-- the output and result of a run: in threads if their number is given, and then without a report of what it meets, else verbose or not
abbrev pub RunsAsked : OfRun (List ℕ) → OfRun ByteSource → Option ℕ → Bool → Option (List ℕ) → Option (List ℕ) → Result ServedRequest Faulted → Type 0
RunsAsked paths sources None is_verbose old new answered = RunsReported paths sources is_verbose old new answered
RunsAsked paths sources (Some threads) is_verbose old new answered = Quietly (RunsFiles paths sources (Some threads) old new) answered

-- the output and result of a listing of the dialplan at a path, given the text of the dialplan
abbrev pub ListsText : List ℕ → (List ℕ → ByteSource) → Option (List ℕ) → Option (List ℕ) → PlanTextOf → Result ServedRequest Faulted → Type 0
ListsText path files old new plan answered = Quietly (ReportsOn path (with_text files path plan.text path) list_of old new) answered

-- the same for the dialplan at a path and the files that it includes
abbrev pub ListsIncluding : Option (List ℕ) → List ℕ → (List ℕ → ByteSource) → Option (List ℕ) → Option (List ℕ) → Result ServedRequest Faulted → Type 0
ListsIncluding clock path files old new answered = ReadsDialplan Report clock files path (ListsText path files old new) old new answered

-- the output and result of a look-up, given the text of the dialplan
abbrev pub LooksUpText : LookupOf → (List ℕ → ByteSource) → Bool → OptionsOf → Option (List ℕ) → Option (List ℕ) → PlanTextOf → Result ServedRequest Faulted → Type 0
LooksUpText lookup files all options old new plan answered =
    LooksUp lookup (with_text files lookup.file plan.text lookup.file) all options old new answered

-- the same in the dialplan at a path and the files that it includes
abbrev pub LooksUpIncluding : LookupOf → (List ℕ → ByteSource) → Bool → OptionsOf → Option (List ℕ) → Option (List ℕ) → Result ServedRequest Faulted → Type 0
LooksUpIncluding lookup files all options old new answered =
    ReadsDialplan (look_up_use options) options.clock files lookup.file (LooksUpText lookup files all options old new) old new answered

-- the output and result of an audit, given the text of the dialplan
abbrev pub AuditsText : Bool → ChoiceOf → List ℕ → (List ℕ → ByteSource) → Option (List ℕ) → Option (List ℕ) → PlanTextOf → Result ServedRequest Faulted → Type 0
AuditsText is_json choice path files old new plan answered = AuditsFileBy is_json choice path (with_text files path plan.text path) old new answered

-- the same for the dialplan at a path and the files that it includes
abbrev pub AuditsIncluding : OptionsOf → ChoiceOf → List ℕ → (List ℕ → ByteSource) → Option (List ℕ) → Option (List ℕ) → Result ServedRequest Faulted → Type 0
AuditsIncluding options choice path files old new answered =
    ReadsDialplan Report options.clock files path (AuditsText options.is_json choice path files old new) old new answered

-- only an audit over the wide table reads the files that its dialplan includes
abbrev pub AuditsAsked : Bool → OptionsOf → ChoiceOf → List ℕ → (List ℕ → ByteSource) → Option (List ℕ) → Option (List ℕ) → Result ServedRequest Faulted → Type 0
AuditsAsked true options choice path files old new answered = AuditsIncluding options choice path files old new answered
AuditsAsked false options choice path files old new answered = AuditsFileBy options.is_json choice path (files path) old new answered

-- where the lines of a run's dialplans come from
abbrev pub places_read : PlanTextOf → Option (List ℕ × PlanTextOf) → PlacesOf
places_read plan second = record { plan = places_in plan; second_plan = option_map (λ second. places_in second.1) second }

-- the files of a run, in which its dialplans have the generated texts
abbrev pub files_read : OfRun (List ℕ) → (List ℕ → ByteSource) → PlanTextOf → Option (List ℕ × PlanTextOf) → List ℕ → ByteSource
files_read paths files plan None = with_text files paths.plan plan.text
files_read paths files plan (Some second) = with_text (with_text files paths.plan plan.text) second.0 second.1.text

-- the output and result of a run over the wide table, given the texts of its dialplans
abbrev pub RunsPlans : OfRun (List ℕ) → (List ℕ → ByteSource) → RunManner → Option (List ℕ) → Option (List ℕ) → PlanTextOf → Option (List ℕ × PlanTextOf) → Result ServedRequest Faulted → Type 0
RunsPlans paths files manner old new plan second answered =
    Quietly (RunsWideAsked paths (places_read plan second) (sources_of (files_read paths files plan second) paths) manner old new) answered

-- how the dialplans of a run are read: the word of `--clock`, and what is assumed of lines that are left out
pub record RunReading : Type 0 where
  pub clock : Option (List ℕ)
  pub assumed : Assumptions

abbrev pub reading_by : Option (List ℕ) → Assumptions → RunReading
reading_by clock assumed = record { clock = clock; assumed = assumed }

-- the same, given the text of the first one and the path of the second, which is read after it
abbrev pub RunsSecond : RunReading → OfRun (List ℕ) → (List ℕ → ByteSource) → RunManner → Option (List ℕ) → Option (List ℕ) → PlanTextOf → List ℕ → Result ServedRequest Faulted → Type 0
RunsSecond reading paths files manner old new plan path answered =
    ReadsDialplan (to_run reading.assumed) reading.clock files path (λ second answered. RunsPlans paths files manner old new plan (Some (path, second)) answered) old new
    answered

-- the same, given the path of the second one, if there is one
abbrev pub RunsBeside : RunReading → OfRun (List ℕ) → (List ℕ → ByteSource) → RunManner → Option (List ℕ) → Option (List ℕ) → PlanTextOf → Option (List ℕ) → Result ServedRequest Faulted → Type 0
RunsBeside reading paths files manner old new plan None answered = RunsPlans paths files manner old new plan None answered
RunsBeside reading paths files manner old new plan (Some path) answered = RunsSecond reading paths files manner old new plan path answered

-- the same, given the text of the first one
abbrev pub RunsPlan : RunReading → OfRun (List ℕ) → (List ℕ → ByteSource) → RunManner → Option (List ℕ) → Option (List ℕ) → PlanTextOf → Result ServedRequest Faulted → Type 0
RunsPlan reading paths files manner old new plan answered = RunsBeside reading paths files manner old new plan paths.second_plan answered

-- the same, given the path of the queues, if there are some: they are read with the files that they include
abbrev pub RunsWithQueues : RunReading → OfRun (List ℕ) → (List ℕ → ByteSource) → RunManner → Option (List ℕ) → Option (List ℕ) → PlanTextOf → Option (List ℕ) → Result ServedRequest Faulted → Type 0
RunsWithQueues reading paths files manner old new plan None answered = RunsPlan reading paths files manner old new plan answered
RunsWithQueues reading paths files manner old new plan (Some path) answered =
    ReadsQueues files path (λ files. RunsPlan reading paths files manner old new plan) old new answered

-- the same, given the text of the first dialplan
abbrev pub RunsQueues : RunReading → OfRun (List ℕ) → (List ℕ → ByteSource) → RunManner → Option (List ℕ) → Option (List ℕ) → PlanTextOf → Result ServedRequest Faulted → Type 0
RunsQueues reading paths files manner old new plan answered = RunsWithQueues reading paths files manner old new plan paths.queues answered

-- the same for the dialplan at a path and the files that it includes
abbrev pub RunsAssuming : RunReading → OfRun (List ℕ) → (List ℕ → ByteSource) → RunManner → Option (List ℕ) → Option (List ℕ) → Result ServedRequest Faulted → Type 0
RunsAssuming reading paths files manner old new answered =
    ReadsDialplan (to_run reading.assumed) reading.clock files paths.plan (RunsQueues reading paths files manner old new) old new answered

-- the same, given the word of `--clock`: the script is read first for what it assumes
abbrev pub RunsIncluding : Option (List ℕ) → OfRun (List ℕ) → (List ℕ → ByteSource) → RunManner → Option (List ℕ) → Option (List ℕ) → Result ServedRequest Faulted → Type 0
RunsIncluding clock paths files manner old new answered =
    Reads (files paths.script) (λ script. RunsAssuming (reading_by clock (text_assumptions script)) paths files manner old new answered)

-- the output and result of a comparison of the dialplans of two files
abbrev pub Compares : List ℕ → List ℕ → Serving
Compares before after files old new answered = Quietly (DiffsFiles files before after old new) answered

-- the same for the dialplans at two paths and the files that they include
abbrev pub DiffsIncluding : Option (List ℕ) → (List ℕ → ByteSource) → List ℕ → List ℕ → Option (List ℕ) → Option (List ℕ) → Result ServedRequest Faulted → Type 0
DiffsIncluding clock files before after old new answered = OverBothIncluded (Compares before after) clock files before after old new answered

-- the output and result of a request, given the files, the input, and its options
abbrev pub Serves : (List ℕ → ByteSource) → ByteSource → RequestOf → OptionsOf → Option (List ℕ) → Option (List ℕ) → Result ServedRequest Faulted → Type 0
Serves files input joined options old new answered = Quietly (RunsJoined input old new) answered
Serves files input (check file) options old new answered =
    Quietly (ReportsOn file (files file) (check_by options.is_json options.explains file) old new) answered
Serves files input (check_files file) options old new answered =
    Quietly (ChecksIncluding options.is_json (moment_in options.clock) file files old new) answered
Serves files input (check_queue_files queues) options old new answered =
    Quietly (ChecksQueuesIncluding options.is_json queues files old new) answered
Serves files input (check_both_files file queues) options old new answered =
    Quietly (ChecksBothIncluding options.is_json (moment_in options.clock) file queues files old new) answered
Serves files input (check_queues queues) options old new answered =
    Quietly (ReportsOn queues (files queues) (queues_report options.is_json) old new) answered
Serves files input (check_both file queues) options old new answered =
    Quietly (ChecksBoth files file queues options.is_json options.explains old new) answered
Serves files input (listing file) options old new answered = Quietly (ReportsOn file (files file) list_of old new) answered
Serves files input (listing_files file) options old new answered = ListsIncluding options.clock file files old new answered
Serves files input (auditing file) options old new answered = AuditsFile options.is_json file (files file) old new answered
Serves files input (auditing_by file choice) options old new answered = AuditsAsked choice.is_wide options choice file files old new answered
Serves files input (matching lookup all) options old new answered = LooksUp lookup (files lookup.file) all options old new answered
Serves files input (matching_files lookup all) options old new answered = LooksUpIncluding lookup files all options old new answered
Serves files input (explaining fault) options old new answered = Quietly (WritesEntry fault old new) answered
Serves files input (run paths threads is_verbose) options old new answered =
    RunsAsked paths (sources_of files paths) threads is_verbose old new answered
Serves files input (run_wide paths is_verbose) options old new answered =
    RunsIncluding options.clock paths files (running is_verbose) old new answered
Serves files input (debug paths held is_verbose) options old new answered =
    Quietly (DebugsAsked paths (sources_of files paths) held is_verbose old new) answered
Serves files input (debug_wide paths held is_verbose) options old new answered =
    RunsIncluding options.clock paths files (debugging held is_verbose) old new answered
Serves files input (testing paths is_traced is_covered is_drawn) options old new answered =
    TestsFiles (manner_of is_traced is_covered is_drawn options.is_json) files paths old new answered
Serves files input (comparing before after) options old new answered = Compares before after files old new answered
Serves files input (comparing_files before after) options old new answered = DiffsIncluding options.clock files before after old new answered
Serves files input (comparing_reach question) options old new answered = ReachDiffsFiles standard_meanings question options.explains files old new answered
Serves files input (comparing_reach_files question) options old new answered = ReachDiffsIncluding options.clock files question options.explains old new answered
Serves files input (drawing question) options old new answered = GraphsFiles standard_meanings files question options.explains old new answered
Serves files input (drawing_files question) options old new answered =
    GraphsIncluding options.clock files question options.explains old new answered
Serves files input (reaching question) options old new answered = ReachesFiles standard_meanings files question options old new answered
Serves files input (reaching_files question) options old new answered =
    ReachesIncluding files question options old new answered

-- whether a read of the input failed, given the result: only a request without a command reads the input
abbrev pub fails_on_input : {X : Type 0} → RequestOf → Result X PbxFault → Bool
fails_on_input joined result = has_read_failed result
fails_on_input (check file) result = false
fails_on_input (check_files file) result = false
fails_on_input (check_queue_files queues) result = false
fails_on_input (check_both_files file queues) result = false
fails_on_input (check_queues queues) result = false
fails_on_input (check_both file queues) result = false
fails_on_input (listing file) result = false
fails_on_input (listing_files file) result = false
fails_on_input (auditing file) result = false
fails_on_input (auditing_by file choice) result = false
fails_on_input (matching lookup all) result = false
fails_on_input (matching_files lookup all) result = false
fails_on_input (explaining fault) result = false
fails_on_input (run paths threads is_verbose) result = false
fails_on_input (run_wide paths is_verbose) result = false
fails_on_input (debug paths held is_verbose) result = false
fails_on_input (debug_wide paths held is_verbose) result = false
fails_on_input (testing paths is_traced is_covered is_drawn) result = false
fails_on_input (comparing before after) result = false
fails_on_input (comparing_files before after) result = false
fails_on_input (comparing_reach question) result = false
fails_on_input (comparing_reach_files question) result = false
fails_on_input (drawing question) result = false
fails_on_input (drawing_files question) result = false
fails_on_input (reaching question) result = false
fails_on_input (reaching_files question) result = false
