-- The output and result of a request that is refused: no output, and the fault.
use Rattle.std.proofs.Common.{◌≡◌, ℕ, Bool, true, false, List, [], length, max, Option, Some, None, Result, Ok, Err, refl, sym, ap, ◌∙◌, subst, inl, arith}
use Rattle.std.proofs.Math.Seq.{take-length}
use Rattle.std.proofs.lemmas.List.{append-nil}
use Rattle.std.specs.Io.KnownBytes.{Appends}
use Rattle.std.specs.Option.{option_map}
use Rattle.std.proofs.KnownBytes.{Appends-nil}
use Rattle.dp_conf.specs.Answers.{Refuses, ◌>>=◌}
use Rattle.dp_app.specs.Rows.{Meanings}
use Rattle.dp_commands.specs.Audit.{Audited, WritesAudit}
use Rattle.dp_commands.specs.Debug.{DebugRun, WritesDebug}
use Rattle.dp_commands.specs.Faults.{reason_of}
use Rattle.dp_commands.specs.Report.{Reports}
use Rattle.dp_commands.specs.Run.{LoadedFilesOf, Run, Writes}
use Rattle.dp_commands.specs.Turns.{lines_of}
use Rattle.dp_commands.specs.Verbose.{InForce, WritesVerbose, WritesVerboseDebug, verbose_turn}
use Rattle.dp_commands.specs.declared.fault.Code.{Code}
use Rattle.dp_commands.specs.declared.fault.PbxFault.{PbxFault}
use Rattle.dp_commands.specs.declared.fault.PbxFault.TheVariants.{Coded, NoMemory}
use Rattle.dp_files.specs.FolderFiles.{nothing_known}
use Rattle.dp_files.specs.Reading.{first_fault}
use Rattle.dp_files.specs.declared.reading.ReadingFault.{ReadingFault}
use Rattle.dp_files.specs.declared.reading.ReadingFault.TheVariants.{NotFound, TooLong as too_long, NoMemory as no_memory}
use Rattle.dp_notices.specs.PlanFiles.{PlanFilesOf, plan_of as read_plan_of}
use Rattle.dp_notices.specs.QueueFiles.{QueueFilesOf, queues_of}
use Rattle.dp_program.specs.Including.{WritesCheck, both_checked, check_or_fault, place_of_both, place_of_plan, place_of_queues, queues_checked, reading_fault}
use Rattle.dp_program.specs.Checks.{both_report}
use Rattle.dp_program.specs.Dialplans.{PlanTextOf, moment_in, with_text}
use Rattle.dp_program.specs.Faulted.{StandsIn, in_none, nowhere, place_by, place_in_file, place_in_files, place_in_two, place_of, place_of_report, place_of_run, place_of_two, place_unread, without_place, unread_fault, unread_path, unread_place}
use Rattle.dp_program.specs.Files.{ByteSource, Reads}
use Rattle.dp_program.specs.Graphs.{Draws, GraphsFiles}
use Rattle.dp_program.specs.Hints.{Tells, audit_hint_of, match_hint_of, status_in}
use Rattle.dp_program.specs.PlanAndQueues.{contents_in, place_of_files}
use Rattle.dp_program.specs.Meanings.{wide_meanings}
use Rattle.dp_table.specs.Standard.{standard_meanings}
use Rattle.dp_program.specs.ReachDiffs.{ReachChanges, ReachDiffsFiles}
use Rattle.dp_program.specs.Reaches.{Reaches, ReachesFiles}
use Rattle.dp_program.specs.Requests.{DrawingOf, OptionsOf, ReachDiffOf, RequestOf, LookupOf, QuestionOf, joined, check, check_files, check_queue_files, check_both_files, check_queues, check_both, listing, listing_files, auditing, auditing_by, matching, matching_files, explaining, run, run_wide, debug, debug_wide, testing, comparing, comparing_files, comparing_reach, comparing_reach_files, drawing, drawing_files, reaching, reaching_files}
use Rattle.dp_program.specs.Entries.{explanation_of}
use Rattle.dp_program.specs.Serves.{AuditsAsked, AuditsFile, AuditsFileBy, AuditsText, ChecksBoth, DebugsAsked, DebugsFiles, DebugsFilesVerbosely, DebugsVerbosely, ListsText, LooksUp, LooksUpText, PlacesOf, ReportsOn, Runs, RunsBeside, RunsPlan, RunsPlans, RunsSecond, RunsAsked, RunsAssuming, RunsFiles, RunsIncluding, RunReading, reading_by, RunsRead, RunsReported, RunsFilesWide, RunsVerbosely, RunsWide, Serves, SharesSome, WritesChoiceBy, audit_by, debug_of_texts, files_read, in_force_at, in_force_at_first, look_up, places_read, run_of_texts, unmodelled_of_texts, wide_run_of_texts, RunsFilesWideVerbosely, RunsTextsWideVerbosely, RunsWideAsked, RunsWideBy, RunsWideVerbosely, RunManner, RunsQueues, RunsWithQueues, DebugsFilesWide, DebugsFilesWideVerbosely, DebugsTextsWideVerbosely, DebugsWide, DebugsWideVerbosely, debugging, running, wide_debug_of_texts, Compares}
use Rattle.dp_program.specs.ScriptAssumptions.{look_up_use, text_assumptions}
use Rattle.dp_program.specs.TestSuites.{manner_of}
use Rattle.dp_program.specs.Texts.{OfRun, ReadsTexts, all_texts, sources_of}
use Rattle.dp_program.specs.declared.dialplans.PlanUse.TheVariants.{Report, Run as to_run}
use Rattle.dp_program.specs.declared.fault_places.Faulted.{Faulted}
use Rattle.dp_program.specs.declared.fault_places.Unread.{Unread}
use Rattle.dp_program.specs.declared.hints.ServedRequest.{ServedRequest}
use Rattle.dp_plan.specs.Plan.{PlanOf}
use Rattle.dp_wide_runs.specs.Debugging.{WideDebug}
use Rattle.dp_wide_runs.specs.Kinds.{ChoiceOf}
use Rattle.dp_wide_runs.specs.Runs.{WideRun}
use Rattle.dp_wide_runs.specs.WideAudits.{plan_of}
use Rattle.dp_commands.proofs.TextsLemmas.{Writes_lacks}
use Rattle.dp_program.proofs.DialplanLemmas.{dialplan_lacks}
use Rattle.dp_program.proofs.DiffLemmas.{diffs_lack, on_both_lacks}
use Rattle.dp_program.proofs.PlanQuestionLemmas.{over_both_lacks, over_included_lacks}
use Rattle.dp_program.proofs.QueueLemmas.{queues_lack}
use Rattle.dp_program.proofs.TestLemmas.{tests_lack}
use Rattle.dp_program.proofs.ReadsLemmas.{IsUnread, by_reason, Reads-any, Reads-weaker, ReadsSome-any, ReadsTexts-any, ReadsTexts-weaker}

-- if memory runs out before anything was written
pub reports_lacks : (old : Option (List ℕ)) (given : Result (List ℕ) PbxFault) → Reports old old given (Err NoMemory)
reports_lacks old (Ok text) = Appends-nil old
reports_lacks old (Err fault) = Appends-nil old

pub audits_lacks : (old : Option (List ℕ)) (given : Result Audited PbxFault) → WritesAudit old old given (Err NoMemory)
audits_lacks old (Ok report) = Appends-nil old
audits_lacks old (Err fault) = Appends-nil old

pub choices_lacks : (is_json : Bool) (choice : ChoiceOf) (old : Option (List ℕ)) (given : Result PlanOf PbxFault) → WritesChoiceBy is_json choice old old given (Err NoMemory)
choices_lacks true choice old (Ok plan) = Appends-nil old
choices_lacks true choice old (Err fault) = Appends-nil old
choices_lacks false choice old (Ok plan) = Appends-nil old
choices_lacks false choice old (Err fault) = Appends-nil old

-- if the dialplan of an audit has a fault
pub choices_fault : (is_json : Bool) (choice : ChoiceOf) (old : Option (List ℕ)) (code : Code) (line : Option ℕ)
    → WritesChoiceBy is_json choice old old (Err (Coded code line)) (Err (Coded code line))
choices_fault true choice old code line = (Appends-nil old, refl)
choices_fault false choice old code line = (Appends-nil old, refl)

-- if memory runs out before anything was written

debug_lacks : (old : Option (List ℕ)) (given : Result DebugRun PbxFault) → WritesDebug old old given (Err NoMemory)
debug_lacks old (Ok ran) = record { count = 0; within = omega arith; written = Appends-nil old }
debug_lacks old (Err fault) = Appends-nil old

verbose_lacks : (in_force : InForce) (old : Option (List ℕ)) (given : Result Run PbxFault) → WritesVerbose explanation_of in_force old old given (Err NoMemory)
verbose_lacks in_force old (Ok ran) = record { count = 0; within = omega arith; written = Appends-nil old }
verbose_lacks in_force old (Err fault) = Appends-nil old

verbose_debug_lacks : (in_force : InForce) (old : Option (List ℕ)) (given : Result DebugRun PbxFault)
    → WritesVerboseDebug explanation_of in_force old old given (Err NoMemory)
verbose_debug_lacks in_force old (Ok ran) = record { count = 0; within = omega arith; written = Appends-nil old }
verbose_debug_lacks in_force old (Err fault) = Appends-nil old

wide_lacks : (old : Option (List ℕ)) (given : Result WideRun PbxFault) → RunsWide old old given (Err NoMemory)
wide_lacks old (Ok ran) = (record { count = 0; within = omega arith; written = Appends-nil old }, tt)
wide_lacks old (Err fault) = (Appends-nil old, tt)

runs_verbosely_lacks : (paths : OfRun (List ℕ)) (old : Option (List ℕ)) (texts : Result (OfRun (List ℕ)) PbxFault) → RunsVerbosely paths old old texts (Err NoMemory)
runs_verbosely_lacks paths old (Ok texts) = verbose_lacks (in_force_at_first paths texts) old (run_of_texts texts)
runs_verbosely_lacks paths old (Err fault) = Appends-nil old

debugs_verbosely_lacks : (paths : OfRun (List ℕ)) (held : List ℕ) (old : Option (List ℕ)) (texts : Result (OfRun (List ℕ)) PbxFault)
    → DebugsVerbosely paths held old old texts (Err NoMemory)
debugs_verbosely_lacks paths held old (Ok texts) = verbose_debug_lacks (in_force_at_first paths texts) old (debug_of_texts held texts)
debugs_verbosely_lacks paths held old (Err fault) = Appends-nil old

wide_debug_lacks : (old : Option (List ℕ)) (given : Result WideDebug PbxFault) → DebugsWide old old given (Err NoMemory)
wide_debug_lacks old (Ok debugged) = (record { count = 0; within = omega arith; written = Appends-nil old }, tt)
wide_debug_lacks old (Err fault) = (Appends-nil old, tt)

wide_verbose_debug_lacks : (in_force : InForce) (old : Option (List ℕ)) (given : Result WideDebug PbxFault) → DebugsWideVerbosely in_force old old given (Err NoMemory)
wide_verbose_debug_lacks in_force old (Ok debugged) = (record { count = 0; within = omega arith; written = Appends-nil old }, tt)
wide_verbose_debug_lacks in_force old (Err fault) = (Appends-nil old, tt)

debugs_wide_verbosely_lacks : (places : PlacesOf) (held : List ℕ) (old : Option (List ℕ)) (texts : Result (OfRun (List ℕ)) PbxFault)
    → DebugsTextsWideVerbosely places held old old texts (Err NoMemory)
debugs_wide_verbosely_lacks places held old (Ok texts) = wide_verbose_debug_lacks (in_force_at places texts) old (wide_debug_of_texts held texts)
debugs_wide_verbosely_lacks places held old (Err fault) = Appends-nil old

wide_verbose_lacks : (in_force : InForce) (old : Option (List ℕ)) (given : Result WideRun PbxFault) → RunsWideVerbosely in_force old old given (Err NoMemory)
wide_verbose_lacks in_force old (Ok ran) = (record { count = 0; within = omega arith; written = Appends-nil old }, tt, tt)
wide_verbose_lacks in_force old (Err fault) = (Appends-nil old, tt, tt)

runs_wide_verbosely_lacks : (places : PlacesOf) (old : Option (List ℕ)) (texts : Result (OfRun (List ℕ)) PbxFault)
    → RunsTextsWideVerbosely places old old texts (Err NoMemory)
runs_wide_verbosely_lacks places old (Ok texts) = wide_verbose_lacks (in_force_at places texts) old (wide_run_of_texts texts)
runs_wide_verbosely_lacks places old (Err fault) = Appends-nil old

shares_lacks : (count : ℕ) (old : Option (List ℕ)) (given : Result Run PbxFault) → SharesSome count old old given (Err NoMemory)
shares_lacks count old (Ok ran) = inl (Appends-nil old, refl)
shares_lacks count old (Err fault) = Appends-nil old

runs_lacks : (threads : Option ℕ) (old : Option (List ℕ)) (given : Result Run PbxFault) → Runs threads old old given (Err NoMemory)
runs_lacks None old given = Writes_lacks old given
runs_lacks (Some threads) old given = shares_lacks (max 1 threads) old given

pub reaches_lacks : (meanings : Meanings) (question : QuestionOf) (options : OptionsOf) (old : Option (List ℕ)) (given : Result LoadedFilesOf PbxFault)
    → Reaches meanings question options given old old (Err NoMemory)
reaches_lacks meanings question options old (Ok files) = Appends-nil old
reaches_lacks meanings question options old (Err fault) = Appends-nil old

-- if a text is refused
pub reports_refused : (old : Option (List ℕ)) (report : List ℕ → Result (List ℕ) PbxFault) (fault : PbxFault) (text : Result (List ℕ) PbxFault)
    → Refuses (reason_of fault) text → Reports old old (text >>= report) (Err fault)
reports_refused old report =
    by_reason (λ fault text. Reports old old (text >>= report) (Err fault)) (λ code line. (Appends-nil old, refl)) (λ text. reports_lacks old (text >>= report))

audits_refused : (is_json : Bool) (old : Option (List ℕ)) (fault : PbxFault) (text : Result (List ℕ) PbxFault)
    → Refuses (reason_of fault) text → WritesAudit old old (text >>= audit_by is_json) (Err fault)
audits_refused is_json old =
    by_reason (λ fault text. WritesAudit old old (text >>= audit_by is_json) (Err fault)) (λ code line. (Appends-nil old, refl))
    (λ text. audits_lacks old (text >>= audit_by is_json))

choices_refused : (is_json : Bool) (choice : ChoiceOf) (old : Option (List ℕ)) (fault : PbxFault) (text : Result (List ℕ) PbxFault)
    → Refuses (reason_of fault) text → WritesChoiceBy is_json choice old old (text >>= plan_of) (Err fault)
choices_refused is_json choice old =
    by_reason (λ fault text. WritesChoiceBy is_json choice old old (text >>= plan_of) (Err fault)) (choices_fault is_json choice old)
    (λ text. choices_lacks is_json choice old (text >>= plan_of))

pub writes_refused : {X : Type 0} (old : Option (List ℕ)) (next : X → Result Run PbxFault) (fault : PbxFault) (text : Result X PbxFault)
    → Refuses (reason_of fault) text → Writes old old (text >>= next) (Err fault)
writes_refused old next =
    by_reason (λ fault text. Writes old old (text >>= next) (Err fault)) (λ code line. (Appends-nil old, refl)) (λ text. Writes_lacks old (text >>= next))

wide_refused : {X : Type 0} (old : Option (List ℕ)) (next : X → Result WideRun PbxFault) (fault : PbxFault) (text : Result X PbxFault)
    → Refuses (reason_of fault) text → RunsWide old old (text >>= next) (Err fault)
wide_refused old next =
    by_reason (λ fault text. RunsWide old old (text >>= next) (Err fault)) (λ code line. ((Appends-nil old, refl), tt)) (λ text. wide_lacks old (text >>= next))

wide_debug_refused : {X : Type 0} (old : Option (List ℕ)) (next : X → Result WideDebug PbxFault) (fault : PbxFault) (text : Result X PbxFault)
    → Refuses (reason_of fault) text → DebugsWide old old (text >>= next) (Err fault)
wide_debug_refused old next =
    by_reason (λ fault text. DebugsWide old old (text >>= next) (Err fault)) (λ code line. ((Appends-nil old, refl), tt)) (λ text. wide_debug_lacks old (text >>= next))

pub debug_refused : {X : Type 0} (old : Option (List ℕ)) (next : X → Result DebugRun PbxFault) (fault : PbxFault) (text : Result X PbxFault)
    → Refuses (reason_of fault) text → WritesDebug old old (text >>= next) (Err fault)
debug_refused old next =
    by_reason (λ fault text. WritesDebug old old (text >>= next) (Err fault)) (λ code line. (Appends-nil old, refl)) (λ text. debug_lacks old (text >>= next))

runs_verbosely_refused : (paths : OfRun (List ℕ)) (old : Option (List ℕ)) (fault : PbxFault) (texts : Result (OfRun (List ℕ)) PbxFault)
    → Refuses (reason_of fault) texts → RunsVerbosely paths old old texts (Err fault)
runs_verbosely_refused paths old =
    by_reason (λ fault texts. RunsVerbosely paths old old texts (Err fault)) (λ code line. (Appends-nil old, refl)) (λ texts. runs_verbosely_lacks paths old texts)

debugs_verbosely_refused : (paths : OfRun (List ℕ)) (held : List ℕ) (old : Option (List ℕ)) (fault : PbxFault) (texts : Result (OfRun (List ℕ)) PbxFault)
    → Refuses (reason_of fault) texts → DebugsVerbosely paths held old old texts (Err fault)
debugs_verbosely_refused paths held old =
    by_reason (λ fault texts. DebugsVerbosely paths held old old texts (Err fault)) (λ code line. (Appends-nil old, refl)) (λ texts. debugs_verbosely_lacks paths held old texts)

runs_wide_verbosely_refused : (places : PlacesOf) (old : Option (List ℕ)) (fault : PbxFault) (texts : Result (OfRun (List ℕ)) PbxFault)
    → Refuses (reason_of fault) texts → RunsTextsWideVerbosely places old old texts (Err fault)
runs_wide_verbosely_refused places old =
    by_reason (λ fault texts. RunsTextsWideVerbosely places old old texts (Err fault)) (λ code line. (Appends-nil old, refl))
    (λ texts. runs_wide_verbosely_lacks places old texts)

debugs_wide_verbosely_refused : (places : PlacesOf) (held : List ℕ) (old : Option (List ℕ)) (fault : PbxFault) (texts : Result (OfRun (List ℕ)) PbxFault)
    → Refuses (reason_of fault) texts → DebugsTextsWideVerbosely places held old old texts (Err fault)
debugs_wide_verbosely_refused places held old =
    by_reason (λ fault texts. DebugsTextsWideVerbosely places held old old texts (Err fault)) (λ code line. (Appends-nil old, refl))
    (λ texts. debugs_wide_verbosely_lacks places held old texts)

shares_refused : {X : Type 0} (count : ℕ) (old : Option (List ℕ)) (next : X → Result Run PbxFault) (fault : PbxFault) (text : Result X PbxFault)
    → Refuses (reason_of fault) text → SharesSome count old old (text >>= next) (Err fault)
shares_refused count old next =
    by_reason (λ fault text. SharesSome count old old (text >>= next) (Err fault)) (λ code line. (Appends-nil old, refl)) (λ text. shares_lacks count old (text >>= next))

pub runs_refused : {X : Type 0} (threads : Option ℕ) (old : Option (List ℕ)) (next : X → Result Run PbxFault) (fault : PbxFault) (text : Result X PbxFault)
    → Refuses (reason_of fault) text → Runs threads old old (text >>= next) (Err fault)
runs_refused None old next = writes_refused old next
runs_refused (Some threads) old next = shares_refused (max 1 threads) old next

-- out of memory has no place in a file
lacks_report_place : (path : List ℕ) (text : Result (List ℕ) PbxFault) → in_none ≡ place_of_report path text NoMemory
lacks_report_place path (Ok text) = refl
lacks_report_place path (Err unread) = refl

lacks_place_by : (paths : OfRun (List ℕ)) (unread : List ℕ) (texts : Result (OfRun (List ℕ)) PbxFault) → in_none ≡ place_by paths unread texts NoMemory
lacks_place_by paths unread (Ok texts) = refl
lacks_place_by paths unread (Err first) = refl

lacks_two_place : (path queues_path : List ℕ) (plan queues : Result (List ℕ) PbxFault) → in_none ≡ place_of_two path queues_path plan queues NoMemory
lacks_two_place path queues_path (Ok plan) (Ok queues) = refl
lacks_two_place path queues_path (Ok plan) (Err unread) = refl
lacks_two_place path queues_path (Err unread) queues = refl

pub lacks_files_place : (path : List ℕ) (queues_path : Option (List ℕ)) (plan : Result (List ℕ) PbxFault) (queues : Option (Result (List ℕ) PbxFault))
    → in_none ≡ place_of_files path queues_path plan queues NoMemory
lacks_files_place path None plan queues = lacks_report_place path plan
lacks_files_place path (Some queues_path) plan None = lacks_report_place path plan
lacks_files_place path (Some queues_path) plan (Some queues) = lacks_two_place path queues_path plan queues

-- the place of a file that could not be read
pub unread_stands : (unread : Unread) (fault : PbxFault) → place_of (place_unread unread fault) ≡ unread_place unread.path.now fault
unread_stands unread (Coded code line) = refl
unread_stands unread NoMemory = refl

-- is the place of the fault of a report
pub refused_report_place : (path : List ℕ) (fault : PbxFault) (text : Result (List ℕ) PbxFault) → Refuses (reason_of fault) text → unread_place path fault ≡ place_of_report path text fault
refused_report_place path = by_reason (λ fault text. unread_place path fault ≡ place_of_report path text fault) (λ code line. refl) (lacks_report_place path)

-- of a run
refused_place_by : (paths : OfRun (List ℕ)) (unread : List ℕ) (fault : PbxFault) (texts : Result (OfRun (List ℕ)) PbxFault) → Refuses (reason_of fault) texts → unread_place unread fault ≡ place_by paths unread texts fault
refused_place_by paths unread = by_reason (λ fault texts. unread_place unread fault ≡ place_by paths unread texts fault) (λ code line. refl) (lacks_place_by paths unread)

-- and of a check of two files, if the first or the second could not be read
pub refused_first_place : (path queues_path : List ℕ) (queues : Result (List ℕ) PbxFault) (fault : PbxFault) (plan : Result (List ℕ) PbxFault)
    → Refuses (reason_of fault) plan → unread_place path fault ≡ place_of_two path queues_path plan queues fault
refused_first_place path queues_path queues =
    by_reason (λ fault plan. unread_place path fault ≡ place_of_two path queues_path plan queues fault) (λ code line. refl) (λ plan. lacks_two_place path queues_path plan queues)

pub refused_second_place : (path queues_path read : List ℕ) (fault : PbxFault) (queues : Result (List ℕ) PbxFault)
    → Refuses (reason_of fault) queues → unread_place queues_path fault ≡ place_of_two path queues_path (Ok read) queues fault
refused_second_place path queues_path read =
    by_reason (λ fault queues. unread_place queues_path fault ≡ place_of_two path queues_path (Ok read) queues fault) (λ code line. refl) (lacks_two_place path queues_path (Ok read))

-- if the file of a report is refused
pub report_refused : (path : List ℕ) (file : ByteSource) (report : List ℕ → Result (List ℕ) PbxFault) (old : Option (List ℕ)) (unread : Unread) → unread.path.now ≡ path
    → Reads file (λ text. Refuses (reason_of unread.fault) text) → ReportsOn path file report old old (Err (unread_fault unread))
report_refused path file report old unread at reads =
    Reads-weaker (λ text. Refuses (reason_of unread.fault) text) (λ text. Reports old old (text >>= report) (Err unread.fault) × (place_of (place_unread unread unread.fault) ≡ place_of_report path text unread.fault))
    (λ text refused. (
      reports_refused old report unread.fault text refused,
      unread_stands unread unread.fault ∙ (ap (λ path. unread_place path unread.fault) at ∙ refused_report_place path unread.fault text refused),
    )) reads

pub audit_refused : (is_json : Bool) (path : List ℕ) (file : ByteSource) (old : Option (List ℕ)) (unread : Unread) → unread.path.now ≡ path
    → Reads file (λ text. Refuses (reason_of unread.fault) text) → AuditsFile is_json path file old old (Err (unread_fault unread))
audit_refused is_json path file old unread at reads =
    Reads-weaker (λ text. Refuses (reason_of unread.fault) text)
    (λ text. WritesAudit old old (text >>= audit_by is_json) (Err unread.fault) × (place_of (place_unread unread unread.fault) ≡ place_of_report path text unread.fault) × Unit {0})
    (λ text refused. (
      audits_refused is_json old unread.fault text refused,
      unread_stands unread unread.fault ∙ (ap (λ path. unread_place path unread.fault) at ∙ refused_report_place path unread.fault text refused),
      tt,
    )) reads

pub choice_refused : (is_json : Bool) (choice : ChoiceOf) (path : List ℕ) (file : ByteSource) (old : Option (List ℕ)) (unread : Unread) → unread.path.now ≡ path
    → Reads file (λ text. Refuses (reason_of unread.fault) text) → AuditsFileBy is_json choice path file old old (Err (unread_fault unread))
choice_refused is_json choice path file old unread at reads =
    Reads-weaker (λ text. Refuses (reason_of unread.fault) text)
    (λ text. WritesChoiceBy is_json choice old old (text >>= plan_of) (Err unread.fault) × (place_of (place_unread unread unread.fault) ≡ place_of_report path text unread.fault) × Unit {0})
    (λ text refused. (
      choices_refused is_json choice old unread.fault text refused,
      unread_stands unread unread.fault ∙ (ap (λ path. unread_place path unread.fault) at ∙ refused_report_place path unread.fault text refused),
      tt,
    )) reads

pub look_up_refused : (lookup : LookupOf) (file : ByteSource) (all : Bool) (options : OptionsOf) (old : Option (List ℕ)) (unread : Unread) → unread.path.now ≡ lookup.file
    → Reads file (λ text. Refuses (reason_of unread.fault) text) → LooksUp lookup file all options old old (Err (unread_fault unread))
look_up_refused lookup file all options old unread at reads =
    Reads-weaker (λ text. Refuses (reason_of unread.fault) text)
    (λ text. Reports old old (text >>= look_up options.is_json lookup all) (Err unread.fault) × (place_of (place_unread unread unread.fault) ≡ place_of_report lookup.file text unread.fault) × Unit {0})
    (λ text refused. (
      reports_refused old (look_up options.is_json lookup all) unread.fault text refused,
      unread_stands unread unread.fault ∙ (ap (λ path. unread_place path unread.fault) at ∙ refused_report_place lookup.file unread.fault text refused),
      tt,
    )) reads

-- if it is read: the report is on the text that was read, and that is where the fault has its place
pub report_read : (path : List ℕ) (file : ByteSource) (report : List ℕ → Result (List ℕ) PbxFault) (old new : Option (List ℕ)) (read given asked : List ℕ)
    → given ≡ read → asked ≡ read → (result : Result ℕ PbxFault) (answered : Result ℕ Faulted) → Reads file (λ text. text ≡ Ok read)
    → without_place answered ≡ result → Reports old new (report given) result → StandsIn (place_in_file path asked) answered
    → ReportsOn path file report old new answered
report_read path file report old new read given asked given-is asked-is result answered reads same reports stands =
    Reads-weaker (λ text. text ≡ Ok read) (λ text. Reports old new (text >>= report) (without_place answered) × StandsIn (place_of_report path text) answered)
    (λ text is. subst (λ (text : Result (List ℕ) PbxFault). Reports old new (text >>= report) (without_place answered) × StandsIn (place_of_report path text) answered) (sym is) (
      subst (λ result. Reports old new (report read) result) (sym same) (subst (λ (text : List ℕ). Reports old new (report text) result) given-is reports),
      subst (λ (text : List ℕ). StandsIn (place_in_file path text) answered) asked-is stands,
    )) reads

-- the same, with the hints beside the result
tells_same : (hint : Result (List ℕ) PbxFault) (given : Result ServedRequest PbxFault) (answered : Result ServedRequest Faulted) → without_place answered ≡ given → Tells hint given → Tells hint answered
tells_same hint given (Ok served) same tells = subst (λ given. Tells hint given) (sym same) tells
tells_same hint given (Err faulted) same tells = tt

pub audit_read : (is_json : Bool) (path : List ℕ) (file : ByteSource) (old new : Option (List ℕ)) (read given asked : List ℕ)
    → given ≡ read → asked ≡ read → (result : Result ServedRequest PbxFault) (answered : Result ServedRequest Faulted) → Reads file (λ text. text ≡ Ok read)
    → without_place answered ≡ result → WritesAudit old new (audit_by is_json given) (status_in result) → StandsIn (place_in_file path asked) answered
    → Tells (audit_hint_of path given) result → AuditsFile is_json path file old new answered
audit_read is_json path file old new read given asked given-is asked-is result answered reads same audits stands tells =
    Reads-weaker (λ text. text ≡ Ok read)
    (λ text. WritesAudit old new (text >>= audit_by is_json) (status_in (without_place answered)) × StandsIn (place_of_report path text) answered × Tells (text >>= audit_hint_of path) answered)
    (λ text is. subst (λ (text : Result (List ℕ) PbxFault). WritesAudit old new (text >>= audit_by is_json) (status_in (without_place answered)) × StandsIn (place_of_report path text) answered × Tells (text >>= audit_hint_of path) answered) (sym is) (
      subst (λ result. WritesAudit old new (audit_by is_json read) (status_in result)) (sym same) (subst (λ (text : List ℕ). WritesAudit old new (audit_by is_json text) (status_in result)) given-is audits),
      subst (λ (text : List ℕ). StandsIn (place_in_file path text) answered) asked-is stands,
      tells_same (audit_hint_of path read) result answered same (subst (λ (text : List ℕ). Tells (audit_hint_of path text) result) given-is tells),
    )) reads

pub choice_read : (is_json : Bool) (choice : ChoiceOf) (path : List ℕ) (file : ByteSource) (old new : Option (List ℕ)) (read given asked : List ℕ)
    → given ≡ read → asked ≡ read → (result : Result ServedRequest PbxFault) (answered : Result ServedRequest Faulted) → Reads file (λ text. text ≡ Ok read)
    → without_place answered ≡ result → WritesChoiceBy is_json choice old new (plan_of given) (status_in result) → StandsIn (place_in_file path asked) answered
    → Tells (audit_hint_of path given) result → AuditsFileBy is_json choice path file old new answered
choice_read is_json choice path file old new read given asked given-is asked-is result answered reads same audits stands tells =
    Reads-weaker (λ text. text ≡ Ok read)
    (λ text. WritesChoiceBy is_json choice old new (text >>= plan_of) (status_in (without_place answered)) × StandsIn (place_of_report path text) answered × Tells (text >>= audit_hint_of path) answered)
    (λ text is. subst (λ (text : Result (List ℕ) PbxFault). WritesChoiceBy is_json choice old new (text >>= plan_of) (status_in (without_place answered)) × StandsIn (place_of_report path text) answered × Tells (text >>= audit_hint_of path) answered) (sym is) (
      subst (λ result. WritesChoiceBy is_json choice old new (plan_of read) (status_in result)) (sym same) (subst (λ (text : List ℕ). WritesChoiceBy is_json choice old new (plan_of text) (status_in result)) given-is audits),
      subst (λ (text : List ℕ). StandsIn (place_in_file path text) answered) asked-is stands,
      tells_same (audit_hint_of path read) result answered same (subst (λ (text : List ℕ). Tells (audit_hint_of path text) result) given-is tells),
    )) reads

pub look_up_read : (lookup : LookupOf) (file : ByteSource) (all : Bool) (options : OptionsOf) (old new : Option (List ℕ)) (read given asked : List ℕ)
    → given ≡ read → asked ≡ read → (result : Result ServedRequest PbxFault) (answered : Result ServedRequest Faulted) → Reads file (λ text. text ≡ Ok read)
    → without_place answered ≡ result → Reports old new (look_up options.is_json lookup all given) (status_in result) → StandsIn (place_in_file lookup.file asked) answered
    → Tells (match_hint_of lookup options.explains given) result → LooksUp lookup file all options old new answered
look_up_read lookup file all options old new read given asked given-is asked-is result answered reads same reports stands tells =
    Reads-weaker (λ text. text ≡ Ok read)
    (λ text. Reports old new (text >>= look_up options.is_json lookup all) (status_in (without_place answered)) × StandsIn (place_of_report lookup.file text) answered × Tells (text >>= match_hint_of lookup options.explains) answered)
    (λ text is. subst (λ (text : Result (List ℕ) PbxFault). Reports old new (text >>= look_up options.is_json lookup all) (status_in (without_place answered)) × StandsIn (place_of_report lookup.file text) answered × Tells (text >>= match_hint_of lookup options.explains) answered) (sym is) (
      subst (λ result. Reports old new (look_up options.is_json lookup all read) (status_in result)) (sym same) (subst (λ (text : List ℕ). Reports old new (look_up options.is_json lookup all text) (status_in result)) given-is reports),
      subst (λ (text : List ℕ). StandsIn (place_in_file lookup.file text) answered) asked-is stands,
      tells_same (match_hint_of lookup options.explains read) result answered same (subst (λ (text : List ℕ). Tells (match_hint_of lookup options.explains text) result) given-is tells),
    )) reads

-- the output and result of a check of two files, given the results of reading them
abbrev Checked : List ℕ → List ℕ → Bool → Bool → Option (List ℕ) → Option (List ℕ) → Result ℕ Faulted → Result (List ℕ) PbxFault → Result (List ℕ) PbxFault → Type 0
Checked path queues_path is_json explains old new answered plan queues =
    Reports old new (plan >>= λ plan. queues >>= λ queues. both_report is_json explains path plan queues) (without_place answered)
    × StandsIn (place_of_two path queues_path plan queues) answered

-- if the dialplan of a check of both is refused
pub both_refused_plan : (files : List ℕ → ByteSource) (path queues_path : List ℕ) (is_json explains : Bool) (old : Option (List ℕ)) (unread : Unread) → unread.path.now ≡ path
    → Reads (files path) (λ text. Refuses (reason_of unread.fault) text) → ChecksBoth files path queues_path is_json explains old old (Err (unread_fault unread))
both_refused_plan files path queues_path is_json explains old unread at reads =
    Reads-weaker (λ text. Refuses (reason_of unread.fault) text) (λ plan. Reads (files queues_path) (Checked path queues_path is_json explains old old (Err (unread_fault unread)) plan))
    (λ plan refused. Reads-any (files queues_path) _ (λ queues. (
      reports_refused old (λ plan. queues >>= λ queues. both_report is_json explains path plan queues) unread.fault plan refused,
      unread_stands unread unread.fault ∙ (ap (λ path. unread_place path unread.fault) at ∙ refused_first_place path queues_path queues unread.fault plan refused),
    ))) reads

-- if its queues are refused after the dialplan was read
pub both_refused_queues : (files : List ℕ → ByteSource) (path queues_path : List ℕ) (is_json explains : Bool) (old : Option (List ℕ)) (read : List ℕ) (unread : Unread) → unread.path.now ≡ queues_path
    → Reads (files path) (λ text. text ≡ Ok read) → Reads (files queues_path) (λ text. Refuses (reason_of unread.fault) text)
    → ChecksBoth files path queues_path is_json explains old old (Err (unread_fault unread))
both_refused_queues files path queues_path is_json explains old read unread at is reads =
    Reads-weaker (λ text. text ≡ Ok read) (λ plan. Reads (files queues_path) (Checked path queues_path is_json explains old old (Err (unread_fault unread)) plan))
    (λ plan plan_is. Reads-weaker (λ text. Refuses (reason_of unread.fault) text) (Checked path queues_path is_json explains old old (Err (unread_fault unread)) plan)
    (λ queues refused. subst (λ plan. Checked path queues_path is_json explains old old (Err (unread_fault unread)) plan queues) (sym plan_is) (
      reports_refused old (both_report is_json explains path read) unread.fault queues refused,
      unread_stands unread unread.fault ∙ (ap (λ path. unread_place path unread.fault) at ∙ refused_second_place path queues_path read unread.fault queues refused),
    )) reads) is

-- if both files are read
pub both_read : (files : List ℕ → ByteSource) (path queues_path : List ℕ) (is_json explains : Bool) (old new : Option (List ℕ)) (read held : List ℕ)
    (result : Result ℕ PbxFault) (answered : Result ℕ Faulted) → Reads (files path) (λ text. text ≡ Ok read) → Reads (files queues_path) (λ text. text ≡ Ok held)
    → without_place answered ≡ result → Reports old new (both_report is_json explains path read held) result → StandsIn (place_in_two (path, read) (queues_path, held)) answered
    → ChecksBoth files path queues_path is_json explains old new answered
both_read files path queues_path is_json explains old new read held result answered is are same reports stands =
    Reads-weaker (λ text. text ≡ Ok read) (λ plan. Reads (files queues_path) (Checked path queues_path is_json explains old new answered plan))
    (λ plan plan_is. Reads-weaker (λ text. text ≡ Ok held) (Checked path queues_path is_json explains old new answered plan)
    (λ queues queues_is. subst (λ plan. Checked path queues_path is_json explains old new answered plan queues) (sym plan_is)
    (subst (λ queues. Checked path queues_path is_json explains old new answered (Ok read) queues) (sym queues_is)
    (subst (λ result. Reports old new (both_report is_json explains path read held) result) (sym same) reports, stands))) are) is

-- if a file of a run is refused
pub run_refused : (paths : OfRun (List ℕ)) (sources : OfRun ByteSource) (threads : Option ℕ) (old : Option (List ℕ)) (unread : Unread)
    → ReadsTexts sources (IsUnread paths unread.path.now unread.fault) → RunsFiles paths sources threads old old (Err (unread_fault unread))
run_refused paths sources threads old unread reads =
    ReadsTexts-weaker sources (IsUnread paths unread.path.now unread.fault)
    (λ read. Runs threads old old (all_texts read >>= run_of_texts) (Err unread.fault) × (place_of (place_unread unread unread.fault) ≡ place_of_run paths read unread.fault))
    (λ read is. (
      runs_refused threads old run_of_texts unread.fault (all_texts read) is.0,
      unread_stands unread unread.fault ∙ (is.1 ∙ refused_place_by paths (unread_path paths read) unread.fault (all_texts read) is.0),
    )) reads

pub debug_run_refused : (paths : OfRun (List ℕ)) (sources : OfRun ByteSource) (held : List ℕ) (old : Option (List ℕ)) (unread : Unread)
    → ReadsTexts sources (IsUnread paths unread.path.now unread.fault) → DebugsFiles paths sources held old old (Err (unread_fault unread))
debug_run_refused paths sources held old unread reads =
    ReadsTexts-weaker sources (IsUnread paths unread.path.now unread.fault)
    (λ read. WritesDebug old old (all_texts read >>= debug_of_texts held) (Err unread.fault) × (place_of (place_unread unread unread.fault) ≡ place_of_run paths read unread.fault))
    (λ read is. (
      debug_refused old (debug_of_texts held) unread.fault (all_texts read) is.0,
      unread_stands unread unread.fault ∙ (is.1 ∙ refused_place_by paths (unread_path paths read) unread.fault (all_texts read) is.0),
    )) reads

-- the same with what the run meets that is not modelled
read_refused : (is_verbose : Bool) (paths : OfRun (List ℕ)) (old : Option (List ℕ)) (fault : PbxFault) (texts : Result (OfRun (List ℕ)) PbxFault)
    → Refuses (reason_of fault) texts → RunsRead is_verbose paths old old texts (Err fault)
read_refused true paths old fault texts is = runs_verbosely_refused paths old fault texts is
read_refused false paths old fault texts is = runs_refused None old run_of_texts fault texts is

pub run_reported_refused : (paths : OfRun (List ℕ)) (sources : OfRun ByteSource) (is_verbose : Bool) (old : Option (List ℕ)) (unread : Unread)
    → ReadsTexts sources (IsUnread paths unread.path.now unread.fault) → RunsReported paths sources is_verbose old old (Err (unread_fault unread))
run_reported_refused paths sources is_verbose old unread reads =
    ReadsTexts-weaker sources (IsUnread paths unread.path.now unread.fault)
    (λ read. RunsRead is_verbose paths old old (all_texts read) (Err unread.fault)
    × (place_of (place_unread unread unread.fault) ≡ place_of_run paths read unread.fault) × Unit {0})
    (λ read is. (
      read_refused is_verbose paths old unread.fault (all_texts read) is.0,
      unread_stands unread unread.fault ∙ (is.1 ∙ refused_place_by paths (unread_path paths read) unread.fault (all_texts read) is.0),
      tt,
    )) reads

-- the same over the wide table
pub run_wide_refused : (paths : OfRun (List ℕ)) (sources : OfRun ByteSource) (old : Option (List ℕ)) (unread : Unread)
    → ReadsTexts sources (IsUnread paths unread.path.now unread.fault) → RunsFilesWide paths sources old old (Err (unread_fault unread))
run_wide_refused paths sources old unread reads =
    ReadsTexts-weaker sources (IsUnread paths unread.path.now unread.fault)
    (λ read. RunsWide old old (all_texts read >>= wide_run_of_texts) (Err unread.fault) × (place_of (place_unread unread unread.fault) ≡ place_of_run paths read unread.fault))
    (λ read is. (
      wide_refused old wide_run_of_texts unread.fault (all_texts read) is.0,
      unread_stands unread unread.fault ∙ (is.1 ∙ refused_place_by paths (unread_path paths read) unread.fault (all_texts read) is.0),
    )) reads

-- the same for verbose runs
pub run_wide_verbose_refused : (paths : OfRun (List ℕ)) (places : PlacesOf) (sources : OfRun ByteSource) (old : Option (List ℕ)) (unread : Unread)
    → ReadsTexts sources (IsUnread paths unread.path.now unread.fault) → RunsFilesWideVerbosely paths places sources old old (Err (unread_fault unread))
run_wide_verbose_refused paths places sources old unread reads =
    ReadsTexts-weaker sources (IsUnread paths unread.path.now unread.fault)
    (λ read. RunsTextsWideVerbosely places old old (all_texts read) (Err unread.fault) × (place_of (place_unread unread unread.fault) ≡ place_of_run paths read unread.fault))
    (λ read is. (
      runs_wide_verbosely_refused places old unread.fault (all_texts read) is.0,
      unread_stands unread unread.fault ∙ (is.1 ∙ refused_place_by paths (unread_path paths read) unread.fault (all_texts read) is.0),
    )) reads

pub debug_wide_refused : (paths : OfRun (List ℕ)) (sources : OfRun ByteSource) (held : List ℕ) (old : Option (List ℕ)) (unread : Unread)
    → ReadsTexts sources (IsUnread paths unread.path.now unread.fault) → DebugsFilesWide paths sources held old old (Err (unread_fault unread))
debug_wide_refused paths sources held old unread reads =
    ReadsTexts-weaker sources (IsUnread paths unread.path.now unread.fault)
    (λ read. DebugsWide old old (all_texts read >>= wide_debug_of_texts held) (Err unread.fault) × (place_of (place_unread unread unread.fault) ≡ place_of_run paths read unread.fault))
    (λ read is. (
      wide_debug_refused old (wide_debug_of_texts held) unread.fault (all_texts read) is.0,
      unread_stands unread unread.fault ∙ (is.1 ∙ refused_place_by paths (unread_path paths read) unread.fault (all_texts read) is.0),
    )) reads

pub debug_wide_verbose_refused : (paths : OfRun (List ℕ)) (places : PlacesOf) (sources : OfRun ByteSource) (held : List ℕ) (old : Option (List ℕ)) (unread : Unread)
    → ReadsTexts sources (IsUnread paths unread.path.now unread.fault) → DebugsFilesWideVerbosely paths places sources held old old (Err (unread_fault unread))
debug_wide_verbose_refused paths places sources held old unread reads =
    ReadsTexts-weaker sources (IsUnread paths unread.path.now unread.fault)
    (λ read. DebugsTextsWideVerbosely places held old old (all_texts read) (Err unread.fault) × (place_of (place_unread unread unread.fault) ≡ place_of_run paths read unread.fault))
    (λ read is. (
      debugs_wide_verbosely_refused places held old unread.fault (all_texts read) is.0,
      unread_stands unread unread.fault ∙ (is.1 ∙ refused_place_by paths (unread_path paths read) unread.fault (all_texts read) is.0),
    )) reads

pub debug_verbose_refused : (paths : OfRun (List ℕ)) (sources : OfRun ByteSource) (held : List ℕ) (old : Option (List ℕ)) (unread : Unread)
    → ReadsTexts sources (IsUnread paths unread.path.now unread.fault) → DebugsFilesVerbosely paths sources held old old (Err (unread_fault unread))
debug_verbose_refused paths sources held old unread reads =
    ReadsTexts-weaker sources (IsUnread paths unread.path.now unread.fault)
    (λ read. DebugsVerbosely paths held old old (all_texts read) (Err unread.fault) × (place_of (place_unread unread unread.fault) ≡ place_of_run paths read unread.fault))
    (λ read is. (
      debugs_verbosely_refused paths held old unread.fault (all_texts read) is.0,
      unread_stands unread unread.fault ∙ (is.1 ∙ refused_place_by paths (unread_path paths read) unread.fault (all_texts read) is.0),
    )) reads

-- if all files of a run are read
pub run_read : (paths : OfRun (List ℕ)) (sources : OfRun ByteSource) (threads : Option ℕ) (old new : Option (List ℕ)) (texts : OfRun (List ℕ))
    (result : Result ℕ PbxFault) (answered : Result ℕ Faulted) → ReadsTexts sources (λ read. (all_texts read ≡ Ok texts) × Unit {0}) → without_place answered ≡ result
    → Runs threads old new (run_of_texts texts) result → StandsIn (place_in_files paths texts) answered → RunsFiles paths sources threads old new answered
run_read paths sources threads old new texts result answered reads same runs stands =
    ReadsTexts-weaker sources (λ read. (all_texts read ≡ Ok texts) × Unit {0})
    (λ read. Runs threads old new (all_texts read >>= run_of_texts) (without_place answered) × StandsIn (place_of_run paths read) answered)
    (λ read is. subst (λ (joined : Result (OfRun (List ℕ)) PbxFault). Runs threads old new (joined >>= run_of_texts) (without_place answered) × StandsIn (place_by paths (unread_path paths read) joined) answered) (sym is.0)
    (subst (λ result. Runs threads old new (run_of_texts texts) result) (sym same) runs, stands)) reads

pub debug_run_read : (paths : OfRun (List ℕ)) (sources : OfRun ByteSource) (held : List ℕ) (old new : Option (List ℕ)) (texts : OfRun (List ℕ))
    (result : Result ℕ PbxFault) (answered : Result ℕ Faulted) → ReadsTexts sources (λ read. (all_texts read ≡ Ok texts) × Unit {0}) → without_place answered ≡ result
    → WritesDebug old new (debug_of_texts held texts) result → StandsIn (place_in_files paths texts) answered → DebugsFiles paths sources held old new answered
debug_run_read paths sources held old new texts result answered reads same debugs stands =
    ReadsTexts-weaker sources (λ read. (all_texts read ≡ Ok texts) × Unit {0})
    (λ read. WritesDebug old new (all_texts read >>= debug_of_texts held) (without_place answered) × StandsIn (place_of_run paths read) answered)
    (λ read is. subst (λ (joined : Result (OfRun (List ℕ)) PbxFault). WritesDebug old new (joined >>= debug_of_texts held) (without_place answered) × StandsIn (place_by paths (unread_path paths read) joined) answered) (sym is.0)
    (subst (λ result. WritesDebug old new (debug_of_texts held texts) result) (sym same) debugs, stands)) reads

-- the same with what the run meets that is not modelled
pub run_reported_read : (paths : OfRun (List ℕ)) (sources : OfRun ByteSource) (is_verbose : Bool) (old new : Option (List ℕ)) (texts : OfRun (List ℕ))
    (result : Result ServedRequest PbxFault) (answered : Result ServedRequest Faulted) → ReadsTexts sources (λ read. (all_texts read ≡ Ok texts) × Unit {0})
    → without_place answered ≡ result → RunsRead is_verbose paths old new (Ok texts) (status_in result) → StandsIn (place_in_files paths texts) answered
    → Tells (unmodelled_of_texts texts) result → RunsReported paths sources is_verbose old new answered
run_reported_read paths sources is_verbose old new texts result answered reads same runs stands tells =
    ReadsTexts-weaker sources (λ read. (all_texts read ≡ Ok texts) × Unit {0})
    (λ read. RunsRead is_verbose paths old new (all_texts read) (status_in (without_place answered)) × StandsIn (place_of_run paths read) answered
    × Tells (all_texts read >>= unmodelled_of_texts) answered)
    (λ read is. subst (λ (joined : Result (OfRun (List ℕ)) PbxFault). RunsRead is_verbose paths old new joined (status_in (without_place answered))
    × StandsIn (place_by paths (unread_path paths read) joined) answered × Tells (joined >>= unmodelled_of_texts) answered) (sym is.0) (
      subst (λ result. RunsRead is_verbose paths old new (Ok texts) (status_in result)) (sym same) runs,
      stands,
      tells_same (unmodelled_of_texts texts) result answered same tells,
    )) reads

-- all turns of a verbose run may have written their lines before memory runs out
pub verbose_done : (in_force : InForce) (old new : Option (List ℕ)) (given : Result Run PbxFault) (status : ℕ)
    → WritesVerbose explanation_of in_force old new given (Ok status) → WritesVerbose explanation_of in_force old new given (Err NoMemory)
verbose_done in_force old new (Ok ran) status writes = record {
  count = length ran.turns;
  within = omega arith;
  written =
      subst (λ turns. Appends old new (lines_of (verbose_turn explanation_of) (in_force, ran.world) turns)) (sym (take-length ran.turns))
      (subst (Appends old new) (append-nil (lines_of (verbose_turn explanation_of) (in_force, ran.world) ran.turns)) writes.0);
}
verbose_done in_force old new (Err fault) status writes = absurd writes

-- the same over the wide table
pub run_wide_read : (paths : OfRun (List ℕ)) (sources : OfRun ByteSource) (old new : Option (List ℕ)) (texts : OfRun (List ℕ))
    (result : Result ℕ PbxFault) (answered : Result ℕ Faulted) → ReadsTexts sources (λ read. (all_texts read ≡ Ok texts) × Unit {0}) → without_place answered ≡ result
    → RunsWide old new (wide_run_of_texts texts) result → StandsIn (place_in_files paths texts) answered → RunsFilesWide paths sources old new answered
run_wide_read paths sources old new texts result answered reads same runs stands =
    ReadsTexts-weaker sources (λ read. (all_texts read ≡ Ok texts) × Unit {0})
    (λ read. RunsWide old new (all_texts read >>= wide_run_of_texts) (without_place answered) × StandsIn (place_of_run paths read) answered)
    (λ read is. subst (λ (joined : Result (OfRun (List ℕ)) PbxFault). RunsWide old new (joined >>= wide_run_of_texts) (without_place answered) × StandsIn (place_by paths (unread_path paths read) joined) answered) (sym is.0)
    (subst (λ result. RunsWide old new (wide_run_of_texts texts) result) (sym same) runs, stands)) reads

-- the same for verbose runs
pub run_wide_verbose_read : (paths : OfRun (List ℕ)) (places : PlacesOf) (sources : OfRun ByteSource) (old new : Option (List ℕ)) (texts : OfRun (List ℕ))
    (result : Result ℕ PbxFault) (answered : Result ℕ Faulted) → ReadsTexts sources (λ read. (all_texts read ≡ Ok texts) × Unit {0}) → without_place answered ≡ result
    → RunsWideVerbosely (in_force_at places texts) old new (wide_run_of_texts texts) result → StandsIn (place_in_files paths texts) answered
    → RunsFilesWideVerbosely paths places sources old new answered
run_wide_verbose_read paths places sources old new texts result answered reads same runs stands =
    ReadsTexts-weaker sources (λ read. (all_texts read ≡ Ok texts) × Unit {0})
    (λ read. RunsTextsWideVerbosely places old new (all_texts read) (without_place answered) × StandsIn (place_of_run paths read) answered)
    (λ read is. subst (λ (joined : Result (OfRun (List ℕ)) PbxFault). RunsTextsWideVerbosely places old new joined (without_place answered) × StandsIn (place_by paths (unread_path paths read) joined) answered) (sym is.0)
    (subst (λ result. RunsWideVerbosely (in_force_at places texts) old new (wide_run_of_texts texts) result) (sym same) runs, stands)) reads

pub debug_wide_read : (paths : OfRun (List ℕ)) (sources : OfRun ByteSource) (held : List ℕ) (old new : Option (List ℕ)) (texts : OfRun (List ℕ))
    (result : Result ℕ PbxFault) (answered : Result ℕ Faulted) → ReadsTexts sources (λ read. (all_texts read ≡ Ok texts) × Unit {0}) → without_place answered ≡ result
    → DebugsWide old new (wide_debug_of_texts held texts) result → StandsIn (place_in_files paths texts) answered → DebugsFilesWide paths sources held old new answered
debug_wide_read paths sources held old new texts result answered reads same debugs stands =
    ReadsTexts-weaker sources (λ read. (all_texts read ≡ Ok texts) × Unit {0})
    (λ read. DebugsWide old new (all_texts read >>= wide_debug_of_texts held) (without_place answered) × StandsIn (place_of_run paths read) answered)
    (λ read is. subst (λ (joined : Result (OfRun (List ℕ)) PbxFault). DebugsWide old new (joined >>= wide_debug_of_texts held) (without_place answered) × StandsIn (place_by paths (unread_path paths read) joined) answered) (sym is.0)
    (subst (λ result. DebugsWide old new (wide_debug_of_texts held texts) result) (sym same) debugs, stands)) reads

pub debug_wide_verbose_read : (paths : OfRun (List ℕ)) (places : PlacesOf) (sources : OfRun ByteSource) (held : List ℕ) (old new : Option (List ℕ)) (texts : OfRun (List ℕ))
    (result : Result ℕ PbxFault) (answered : Result ℕ Faulted) → ReadsTexts sources (λ read. (all_texts read ≡ Ok texts) × Unit {0}) → without_place answered ≡ result
    → DebugsWideVerbosely (in_force_at places texts) old new (wide_debug_of_texts held texts) result → StandsIn (place_in_files paths texts) answered
    → DebugsFilesWideVerbosely paths places sources held old new answered
debug_wide_verbose_read paths places sources held old new texts result answered reads same debugs stands =
    ReadsTexts-weaker sources (λ read. (all_texts read ≡ Ok texts) × Unit {0})
    (λ read. DebugsTextsWideVerbosely places held old new (all_texts read) (without_place answered) × StandsIn (place_of_run paths read) answered)
    (λ read is. subst (λ (joined : Result (OfRun (List ℕ)) PbxFault). DebugsTextsWideVerbosely places held old new joined (without_place answered) × StandsIn (place_by paths (unread_path paths read) joined) answered) (sym is.0)
    (subst (λ result. DebugsWideVerbosely (in_force_at places texts) old new (wide_debug_of_texts held texts) result) (sym same) debugs, stands)) reads

pub debug_verbose_read : (paths : OfRun (List ℕ)) (sources : OfRun ByteSource) (held : List ℕ) (old new : Option (List ℕ)) (texts : OfRun (List ℕ))
    (result : Result ℕ PbxFault) (answered : Result ℕ Faulted) → ReadsTexts sources (λ read. (all_texts read ≡ Ok texts) × Unit {0}) → without_place answered ≡ result
    → WritesVerboseDebug explanation_of (in_force_at_first paths texts) old new (debug_of_texts held texts) result → StandsIn (place_in_files paths texts) answered
    → DebugsFilesVerbosely paths sources held old new answered
debug_verbose_read paths sources held old new texts result answered reads same debugs stands =
    ReadsTexts-weaker sources (λ read. (all_texts read ≡ Ok texts) × Unit {0})
    (λ read. DebugsVerbosely paths held old new (all_texts read) (without_place answered) × StandsIn (place_of_run paths read) answered)
    (λ read is. subst (λ (joined : Result (OfRun (List ℕ)) PbxFault). DebugsVerbosely paths held old new joined (without_place answered) × StandsIn (place_by paths (unread_path paths read) joined) answered) (sym is.0)
    (subst (λ result. WritesVerboseDebug explanation_of (in_force_at_first paths texts) old new (debug_of_texts held texts) result) (sym same) debugs, stands)) reads

-- memory may run out before a run does anything
run_lacks : (paths : OfRun (List ℕ)) (sources : OfRun ByteSource) (threads : Option ℕ) (old : Option (List ℕ)) → RunsFiles paths sources threads old old (Err (nowhere NoMemory))
run_lacks paths sources threads old =
    ReadsTexts-any sources (λ read. Runs threads old old (all_texts read >>= run_of_texts) (Err NoMemory) × (in_none ≡ place_of_run paths read NoMemory))
    (λ read. (runs_lacks threads old (all_texts read >>= run_of_texts), lacks_place_by paths (unread_path paths read) (all_texts read)))

run_wide_lacks : (paths : OfRun (List ℕ)) (sources : OfRun ByteSource) (old : Option (List ℕ)) → RunsFilesWide paths sources old old (Err (nowhere NoMemory))
run_wide_lacks paths sources old =
    ReadsTexts-any sources (λ read. RunsWide old old (all_texts read >>= wide_run_of_texts) (Err NoMemory) × (in_none ≡ place_of_run paths read NoMemory))
    (λ read. (wide_lacks old (all_texts read >>= wide_run_of_texts), lacks_place_by paths (unread_path paths read) (all_texts read)))

run_wide_by_lacks : (paths : OfRun (List ℕ)) (places : PlacesOf) (sources : OfRun ByteSource) (held : Option (List ℕ)) (is_verbose : Bool) (old : Option (List ℕ))
    → RunsWideBy paths places sources held is_verbose old old (Err (nowhere NoMemory))
run_wide_by_lacks paths places sources None true old =
    ReadsTexts-any sources (λ read. RunsTextsWideVerbosely places old old (all_texts read) (Err NoMemory) × (in_none ≡ place_of_run paths read NoMemory))
    (λ read. (runs_wide_verbosely_lacks places old (all_texts read), lacks_place_by paths (unread_path paths read) (all_texts read)))
run_wide_by_lacks paths places sources None false old = run_wide_lacks paths sources old
run_wide_by_lacks paths places sources (Some held) true old =
    ReadsTexts-any sources (λ read. DebugsTextsWideVerbosely places held old old (all_texts read) (Err NoMemory) × (in_none ≡ place_of_run paths read NoMemory))
    (λ read. (debugs_wide_verbosely_lacks places held old (all_texts read), lacks_place_by paths (unread_path paths read) (all_texts read)))
run_wide_by_lacks paths places sources (Some held) false old =
    ReadsTexts-any sources (λ read. DebugsWide old old (all_texts read >>= wide_debug_of_texts held) (Err NoMemory) × (in_none ≡ place_of_run paths read NoMemory))
    (λ read. (wide_debug_lacks old (all_texts read >>= wide_debug_of_texts held), lacks_place_by paths (unread_path paths read) (all_texts read)))

run_wide_asked_lacks : (paths : OfRun (List ℕ)) (places : PlacesOf) (sources : OfRun ByteSource) (manner : RunManner) (old : Option (List ℕ))
    → RunsWideAsked paths places sources manner old old (Err (nowhere NoMemory))
run_wide_asked_lacks paths places sources manner old = run_wide_by_lacks paths places sources manner.held manner.is_verbose old

-- the same with dialplans that are read with the files that they include
pub plans_lack : (paths : OfRun (List ℕ)) (files : List ℕ → ByteSource) (manner : RunManner) (old : Option (List ℕ)) (plan : PlanTextOf) (second : Option (List ℕ × PlanTextOf))
    → RunsPlans paths files manner old old plan second (Err (nowhere NoMemory))
plans_lack paths files manner old plan second =
    (run_wide_asked_lacks paths (places_read plan second) (sources_of (files_read paths files plan second) paths) manner old, tt)

pub second_lacks : (reading : RunReading) (paths : OfRun (List ℕ)) (files : List ℕ → ByteSource) (manner : RunManner) (old : Option (List ℕ)) (plan : PlanTextOf) (path : List ℕ)
    → RunsSecond reading paths files manner old old plan path (Err (nowhere NoMemory))
second_lacks reading paths files manner old plan path =
    dialplan_lacks (λ second answered. RunsPlans paths files manner old old plan (Some (path, second)) answered) path old
    (λ second. plans_lack paths files manner old plan (Some (path, second))) (to_run reading.assumed) reading.clock files

beside_lacks : (reading : RunReading) (paths : OfRun (List ℕ)) (files : List ℕ → ByteSource) (manner : RunManner) (old : Option (List ℕ)) (plan : PlanTextOf) (second : Option (List ℕ))
    → RunsBeside reading paths files manner old old plan second (Err (nowhere NoMemory))
beside_lacks reading paths files manner old plan None = plans_lack paths files manner old plan None
beside_lacks reading paths files manner old plan (Some path) = second_lacks reading paths files manner old plan path

pub plan_lacks : (reading : RunReading) (paths : OfRun (List ℕ)) (files : List ℕ → ByteSource) (manner : RunManner) (old : Option (List ℕ)) (plan : PlanTextOf)
    → RunsPlan reading paths files manner old old plan (Err (nowhere NoMemory))
plan_lacks reading paths files manner old plan = beside_lacks reading paths files manner old plan paths.second_plan

with_queues_lack : (reading : RunReading) (paths : OfRun (List ℕ)) (files : List ℕ → ByteSource) (manner : RunManner) (old : Option (List ℕ)) (plan : PlanTextOf)
    (queues : Option (List ℕ)) → RunsWithQueues reading paths files manner old old plan queues (Err (nowhere NoMemory))
with_queues_lack reading paths files manner old plan None = plan_lacks reading paths files manner old plan
with_queues_lack reading paths files manner old plan (Some path) =
    queues_lack files path (λ files. RunsPlan reading paths files manner old old plan) old (λ files. plan_lacks reading paths files manner old plan)

pub queues_plan_lacks : (reading : RunReading) (paths : OfRun (List ℕ)) (files : List ℕ → ByteSource) (manner : RunManner) (old : Option (List ℕ)) (plan : PlanTextOf)
    → RunsQueues reading paths files manner old old plan (Err (nowhere NoMemory))
queues_plan_lacks reading paths files manner old plan = with_queues_lack reading paths files manner old plan paths.queues

-- the same, after its script is read for what it assumes
pub assuming_lacks : (reading : RunReading) (paths : OfRun (List ℕ)) (files : List ℕ → ByteSource) (manner : RunManner) (old : Option (List ℕ))
    → RunsAssuming reading paths files manner old old (Err (nowhere NoMemory))
assuming_lacks reading paths files manner old =
    dialplan_lacks (RunsQueues reading paths files manner old old) paths.plan old (queues_plan_lacks reading paths files manner old) (to_run reading.assumed) reading.clock files

pub including_lacks : (clock : Option (List ℕ)) (paths : OfRun (List ℕ)) (files : List ℕ → ByteSource) (manner : RunManner) (old : Option (List ℕ))
    → RunsIncluding clock paths files manner old old (Err (nowhere NoMemory))
including_lacks clock paths files manner old =
    Reads-any (files paths.script) _ (λ script. assuming_lacks (reading_by clock (text_assumptions script)) paths files manner old)

-- memory may run out before a report on the text of a dialplan
pub listing_lacks : (path : List ℕ) (files : List ℕ → ByteSource) (old : Option (List ℕ)) (plan : PlanTextOf) → ListsText path files old old plan (Err (nowhere NoMemory))
listing_lacks path files old plan =
    (Reads-any (with_text files path plan.text path) _ (λ text. (reports_lacks old _, lacks_report_place path text)), tt)

pub matching_lacks : (lookup : LookupOf) (files : List ℕ → ByteSource) (all : Bool) (options : OptionsOf) (old : Option (List ℕ)) (plan : PlanTextOf)
    → LooksUpText lookup files all options old old plan (Err (nowhere NoMemory))
matching_lacks lookup files all options old plan =
    Reads-any (with_text files lookup.file plan.text lookup.file) _ (λ text. (reports_lacks old _, lacks_report_place lookup.file text, tt))

audit_lacks : (is_json : Bool) (choice : ChoiceOf) (path : List ℕ) (file : ByteSource) (old : Option (List ℕ))
    → AuditsFileBy is_json choice path file old old (Err (nowhere NoMemory))
audit_lacks is_json choice path file old = Reads-any file _ (λ text. (choices_lacks is_json choice old _, lacks_report_place path text, tt))

pub auditing_lacks : (is_json : Bool) (choice : ChoiceOf) (path : List ℕ) (files : List ℕ → ByteSource) (old : Option (List ℕ)) (plan : PlanTextOf)
    → AuditsText is_json choice path files old old plan (Err (nowhere NoMemory))
auditing_lacks is_json choice path files old plan = audit_lacks is_json choice path (with_text files path plan.text path) old

audit_asked_lacks : (is_wide : Bool) (options : OptionsOf) (choice : ChoiceOf) (path : List ℕ) (files : List ℕ → ByteSource) (old : Option (List ℕ))
    → AuditsAsked is_wide options choice path files old old (Err (nowhere NoMemory))
audit_asked_lacks true options choice path files old =
    dialplan_lacks (AuditsText options.is_json choice path files old old) path old (auditing_lacks options.is_json choice path files old) Report options.clock
    files
audit_asked_lacks false options choice path files old = audit_lacks options.is_json choice path (files path) old

read_lacks : (is_verbose : Bool) (paths : OfRun (List ℕ)) (old : Option (List ℕ)) (texts : Result (OfRun (List ℕ)) PbxFault)
    → RunsRead is_verbose paths old old texts (Err NoMemory)
read_lacks true paths old texts = runs_verbosely_lacks paths old texts
read_lacks false paths old texts = Writes_lacks old (texts >>= run_of_texts)

run_asked_lacks : (paths : OfRun (List ℕ)) (sources : OfRun ByteSource) (threads : Option ℕ) (is_verbose : Bool) (old : Option (List ℕ))
    → RunsAsked paths sources threads is_verbose old old (Err (nowhere NoMemory))
run_asked_lacks paths sources None is_verbose old =
    ReadsTexts-any sources (λ read. RunsRead is_verbose paths old old (all_texts read) (Err NoMemory) × (in_none ≡ place_of_run paths read NoMemory) × Unit {0})
    (λ read. (read_lacks is_verbose paths old (all_texts read), lacks_place_by paths (unread_path paths read) (all_texts read), tt))
run_asked_lacks paths sources (Some threads) is_verbose old = (run_lacks paths sources (Some threads) old, tt)

debug_asked_lacks : (paths : OfRun (List ℕ)) (sources : OfRun ByteSource) (held : List ℕ) (is_verbose : Bool) (old : Option (List ℕ))
    → DebugsAsked paths sources held is_verbose old old (Err (nowhere NoMemory))
debug_asked_lacks paths sources held true old =
    ReadsTexts-any sources (λ read. DebugsVerbosely paths held old old (all_texts read) (Err NoMemory) × (in_none ≡ place_of_run paths read NoMemory))
    (λ read. (debugs_verbosely_lacks paths held old (all_texts read), lacks_place_by paths (unread_path paths read) (all_texts read)))
debug_asked_lacks paths sources held false old =
    ReadsTexts-any sources (λ read. WritesDebug old old (all_texts read >>= debug_of_texts held) (Err NoMemory) × (in_none ≡ place_of_run paths read NoMemory))
    (λ read. (debug_lacks old (all_texts read >>= debug_of_texts held), lacks_place_by paths (unread_path paths read) (all_texts read)))

check_lacks : (is_json : Bool) (path : List ℕ) (old : Option (List ℕ)) (plan : Result PlanFilesOf ReadingFault)
    → WritesCheck old old (check_or_fault is_json plan) (Err NoMemory) × (in_none ≡ place_of_plan path plan NoMemory)
check_lacks is_json path old (Ok plan) = (Appends-nil old, refl)
check_lacks is_json path old (Err fault) = (Appends-nil old, refl)

queue_check_lacks : (is_json : Bool) (path : List ℕ) (old : Option (List ℕ)) (queues : Result QueueFilesOf ReadingFault)
    → WritesCheck old old (queues_checked is_json queues) (Err NoMemory) × (in_none ≡ place_of_queues path queues NoMemory)
queue_check_lacks is_json path old (Ok queues) = (Appends-nil old, refl)
queue_check_lacks is_json path old (Err fault) = (Appends-nil old, refl)

pub both_check_lacks : (is_json : Bool) (path queues_path : List ℕ) (old : Option (List ℕ)) (plan : Result PlanFilesOf ReadingFault) (queues : Result QueueFilesOf ReadingFault)
    → WritesCheck old old (both_checked is_json plan queues) (Err NoMemory) × (in_none ≡ place_of_both path queues_path plan queues NoMemory)
both_check_lacks is_json path queues_path old (Ok plan) (Ok queues) = (Appends-nil old, refl)
both_check_lacks is_json path queues_path old (Ok plan) (Err fault) = (Appends-nil old, refl)
both_check_lacks is_json path queues_path old (Err fault) queues = (Appends-nil old, refl)

-- if the dialplan of a check of both was not read
pub both_check_refused : (is_json : Bool) (path queues_path : List ℕ) (old : Option (List ℕ)) (queues : Result QueueFilesOf ReadingFault) (fault : ReadingFault) (plan : Result PlanFilesOf ReadingFault)
    → Refuses (first_fault fault) plan
    → WritesCheck old old (both_checked is_json plan queues) (Err (reading_fault fault)) × (unread_place path (reading_fault fault) ≡ place_of_both path queues_path plan queues (reading_fault fault))
both_check_refused is_json path queues_path old queues NotFound plan is =
    subst (λ (plan : Result PlanFilesOf ReadingFault). WritesCheck old old (both_checked is_json plan queues) (Err (reading_fault NotFound)) × (unread_place path (reading_fault NotFound) ≡ place_of_both path queues_path plan queues (reading_fault NotFound))) (sym is)
    ((Appends-nil old, refl), refl)
both_check_refused is_json path queues_path old queues too_long plan is =
    subst (λ (plan : Result PlanFilesOf ReadingFault). WritesCheck old old (both_checked is_json plan queues) (Err (reading_fault too_long)) × (unread_place path (reading_fault too_long) ≡ place_of_both path queues_path plan queues (reading_fault too_long))) (sym is)
    ((Appends-nil old, refl), refl)
both_check_refused is_json path queues_path old queues no_memory plan is = both_check_lacks is_json path queues_path old plan queues

-- memory may run out before it is written what a call reaches
pub reach_changes_lack : (meanings : Meanings) (question : ReachDiffOf) (explains : Bool) (old : Option (List ℕ)) (given : Result (PlanOf × PlanOf) PbxFault)
    → ReachChanges meanings question explains given old old (Err NoMemory)
reach_changes_lack meanings question explains old (Ok plans) = inl (Appends-nil old)
reach_changes_lack meanings question explains old (Err fault) = Appends-nil old

pub reach_diffs_lack : (meanings : Meanings) (question : ReachDiffOf) (explains : Bool) (files : List ℕ → ByteSource) (old : Option (List ℕ))
    → ReachDiffsFiles meanings question explains files old old (Err (nowhere NoMemory))
reach_diffs_lack meanings question explains files old =
    on_both_lacks (λ given. ReachChanges meanings question explains given old old) (reach_changes_lack meanings question explains old) files question.before question.after

-- memory may run out before a picture is written
pub draws_lack : (meanings : Meanings) (question : DrawingOf) (explains : Bool) (old : Option (List ℕ)) (given : Result LoadedFilesOf PbxFault)
    → Draws meanings question explains given old old (Err NoMemory)
draws_lack meanings question explains old (Ok files) = inl (Appends-nil old)
draws_lack meanings question explains old (Err fault) = Appends-nil old

pub graphs_lack : (meanings : Meanings) (files : List ℕ → ByteSource) (question : DrawingOf) (explains : Bool) (old : Option (List ℕ))
    → GraphsFiles meanings files question explains old old (Err (nowhere NoMemory))
graphs_lack meanings files question explains old =
    Reads-any (files question.file) _ (λ plan. ReadsSome-any (option_map files question.queues) _ (λ queues. (
      draws_lack meanings question explains old (contents_in plan queues),
      lacks_files_place question.file question.queues plan queues,
    )))

pub reaches_files_lack : (meanings : Meanings) (files : List ℕ → ByteSource) (question : QuestionOf) (options : OptionsOf) (old : Option (List ℕ))
    → ReachesFiles meanings files question options old old (Err (nowhere NoMemory))
reaches_files_lack meanings files question options old =
    Reads-any (files question.file) _ (λ plan. ReadsSome-any (option_map files question.queues) _ (λ queues. (
      reaches_lacks meanings question options old (contents_in plan queues),
      lacks_files_place question.file question.queues plan queues,
    )))

-- memory may run out before a request does anything
pub Serves-lacks : (files : List ℕ → ByteSource) (input : ByteSource) (want : RequestOf) (options : OptionsOf) (old : Option (List ℕ)) → Serves files input want options old old (Err (nowhere NoMemory))
Serves-lacks files input joined options old = ((Reads-any input _ (λ text. Writes_lacks old _), refl), tt)
Serves-lacks files input (check file) options old = (Reads-any (files file) _ (λ text. (reports_lacks old _, lacks_report_place file text)), tt)
Serves-lacks files input (check_files file) options old =
    ((nothing_known, record { texts = λ name. tt; names = λ pattern. tt }, λ has agrees. check_lacks options.is_json file old (read_plan_of (moment_in options.clock) has file)), tt)
Serves-lacks files input (check_queue_files queues) options old =
    ((nothing_known, record { texts = λ name. tt; names = λ pattern. tt }, λ has agrees. queue_check_lacks options.is_json queues old (queues_of has queues)), tt)
Serves-lacks files input (check_both_files file queues) options old = (
  (
    nothing_known,
    record { texts = λ name. tt; names = λ pattern. tt },
    λ has agrees. (
      nothing_known,
      record { texts = λ name. tt; names = λ pattern. tt },
      λ held agreed.
          both_check_lacks options.is_json file queues old (read_plan_of (moment_in options.clock) has file) (queues_of held queues),
    ),
  ),
  tt,
)
Serves-lacks files input (check_queues queues) options old = (Reads-any (files queues) _ (λ text. (reports_lacks old _, lacks_report_place queues text)), tt)
Serves-lacks files input (check_both file queues) options old =
    (Reads-any (files file) _ (λ plan. Reads-any (files queues) _ (λ held. (reports_lacks old _, lacks_two_place file queues plan held))), tt)
Serves-lacks files input (listing file) options old = (Reads-any (files file) _ (λ text. (reports_lacks old _, lacks_report_place file text)), tt)
Serves-lacks files input (listing_files file) options old =
    dialplan_lacks (ListsText file files old old) file old (listing_lacks file files old) Report options.clock files
Serves-lacks files input (auditing file) options old = Reads-any (files file) _ (λ text. (audits_lacks old _, lacks_report_place file text, tt))
Serves-lacks files input (auditing_by file choice) options old = audit_asked_lacks choice.is_wide options choice file files old
Serves-lacks files input (matching lookup all) options old = Reads-any (files lookup.file) _ (λ text. (reports_lacks old _, lacks_report_place lookup.file text, tt))
Serves-lacks files input (matching_files lookup all) options old =
    dialplan_lacks (LooksUpText lookup files all options old old) lookup.file old (matching_lacks lookup files all options old) (look_up_use options) options.clock files
Serves-lacks files input (explaining fault) options old = ((Appends-nil old, refl), tt)
Serves-lacks files input (run paths threads is_verbose) options old = run_asked_lacks paths (sources_of files paths) threads is_verbose old
Serves-lacks files input (run_wide paths is_verbose) options old = including_lacks options.clock paths files (running is_verbose) old
Serves-lacks files input (debug paths held is_verbose) options old = (debug_asked_lacks paths (sources_of files paths) held is_verbose old, tt)
Serves-lacks files input (debug_wide paths held is_verbose) options old = including_lacks options.clock paths files (debugging held is_verbose) old
Serves-lacks files input (testing paths is_traced is_covered is_drawn) options old = tests_lack (manner_of is_traced is_covered is_drawn options.is_json) files [] paths old
Serves-lacks files input (comparing before after) options old = (diffs_lack files before after old, tt)
Serves-lacks files input (comparing_files before after) options old =
    over_both_lacks (Compares before after) old (λ files. (diffs_lack files before after old, tt)) options.clock files before after
Serves-lacks files input (comparing_reach question) options old = reach_diffs_lack standard_meanings question options.explains files old
Serves-lacks files input (comparing_reach_files question) options old =
    over_both_lacks (ReachDiffsFiles wide_meanings question options.explains) old (λ files. reach_diffs_lack wide_meanings question options.explains files old)
    options.clock files question.before question.after
Serves-lacks files input (drawing question) options old = graphs_lack standard_meanings files question options.explains old
Serves-lacks files input (drawing_files question) options old =
    over_included_lacks (λ files. GraphsFiles wide_meanings files question options.explains) old (λ files. graphs_lack wide_meanings files question options.explains old)
    Report options.clock files question.file question.queues
Serves-lacks files input (reaching question) options old = reaches_files_lack standard_meanings files question options old
Serves-lacks files input (reaching_files question) options old =
    over_included_lacks (λ files. ReachesFiles wide_meanings files question options) old (λ files. reaches_files_lack wide_meanings files question options old)
    (look_up_use options) options.clock files question.file question.queues
