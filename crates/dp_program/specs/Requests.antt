-- Requests, with the texts of their words.
use Rattle.std.specs.Prelude.{ℕ, Bool, List, map, Option}
use Rattle.std.specs.Option.{option_map}
use Rattle.dp_answer.specs.Asks.{AskOf}
use Rattle.dp_program.specs.Texts.{OfRun, paths_of}
use Rattle.dp_wide_runs.specs.Kinds.{ChoiceOf, choice_of}
use Rattle.dp_program.specs.declared.options.Options.{Options}
use Rattle.dp_program.specs.declared.request.GraphQuestion.{GraphQuestion}
use Rattle.dp_program.specs.declared.request.Lookup.{Lookup}
use Rattle.dp_program.specs.declared.request.ReachDiffQuestion.{ReachDiffQuestion}
use Rattle.dp_program.specs.declared.request.ReachQuestion.{ReachQuestion}
use Rattle.dp_program.specs.declared.request.Request.{Request}
use Rattle.dp_program.specs.declared.request.Request.TheVariants.{Joined, Check, CheckIncluding, CheckQueuesIncluding, CheckBothIncluding, CheckQueues, CheckBoth, Listing, ListIncluding, Audit, AuditBy, Match, MatchIncluding, Explain, Run, RunWide, Debug, DebugWide, Test, Diff, DiffIncluding, ReachDiff, ReachDiffIncluding, Graph, GraphIncluding, Reach, ReachIncluding}

-- what is looked up in the dialplan of a file, with its texts
pub record LookupOf : Type 0 where
  pub file : List ℕ
  pub context : List ℕ
  pub text : List ℕ
  pub priority : ℕ

abbrev pub lookup_of : Lookup → LookupOf
lookup_of lookup = record { file = lookup.file.now; context = lookup.context.now; text = lookup.text.now; priority = lookup.priority }

-- a question about the calls that come in at a context: its files, and what is asked of them
pub record QuestionOf : Type 0 where
  pub file : List ℕ
  pub queues : Option (List ℕ)
  pub ask : AskOf

abbrev pub asked_in : ReachQuestion → AskOf
asked_in question = record {
  context = question.context.now;
  target = option_map (λ word. word.now) question.target;
  starts = option_map (λ word. word.now) question.starts;
  exten = option_map (λ word. word.now) question.exten;
  caller = option_map (λ word. word.now) question.caller;
  facts = option_map (λ word. word.now) question.facts;
}

abbrev pub question_of : ReachQuestion → QuestionOf
question_of question = record {
  file = question.file.now;
  queues = option_map (λ path. path.now) question.queues;
  ask = asked_in question;
}

-- what a picture shows, with its texts
pub record DrawingOf : Type 0 where
  pub file : List ℕ
  pub queues : Option (List ℕ)
  pub from : Option (List ℕ)
  pub facts : Option (List ℕ)

abbrev pub drawing_of : GraphQuestion → DrawingOf
drawing_of question = record {
  file = question.file.now;
  queues = option_map (λ path. path.now) question.queues;
  from = option_map (λ context. context.now) question.from;
  facts = option_map (λ word. word.now) question.facts;
}

-- a question about what a call reaches in two dialplans, with its texts
pub record ReachDiffOf : Type 0 where
  pub before : List ℕ
  pub after : List ℕ
  pub from : List ℕ
  pub facts : Option (List ℕ)

abbrev pub reach_diff_of : ReachDiffQuestion → ReachDiffOf
reach_diff_of question = record {
  before = question.files.before.now;
  after = question.files.after.now;
  from = question.from.now;
  facts = option_map (λ word. word.now) question.facts;
}

-- the options of a request, with their texts
pub record OptionsOf : Type 0 where
  pub explains : Bool
  pub clock : Option (List ℕ)
  pub assumed : Option (List ℕ)
  pub is_json : Bool

abbrev pub options_of : Options → OptionsOf
options_of options = record {
  explains = options.explains;
  clock = option_map (λ word. word.now) options.clock;
  assumed = option_map (λ word. word.now) options.assumed;
  is_json = options.is_json;
}

-- what the program is asked for, with its texts
pub data RequestOf : Type 0 where
  joined : RequestOf
  check : List ℕ → RequestOf
  check_files : List ℕ → RequestOf
  check_queue_files : List ℕ → RequestOf
  check_both_files : List ℕ → List ℕ → RequestOf
  check_queues : List ℕ → RequestOf
  check_both : List ℕ → List ℕ → RequestOf
  listing : List ℕ → RequestOf
  listing_files : List ℕ → RequestOf
  auditing : List ℕ → RequestOf
  auditing_by : List ℕ → ChoiceOf → RequestOf
  matching : LookupOf → Bool → RequestOf
  matching_files : LookupOf → Bool → RequestOf
  explaining : ℕ → RequestOf
  run : OfRun (List ℕ) → Option ℕ → Bool → RequestOf
  run_wide : OfRun (List ℕ) → Bool → RequestOf
  debug : OfRun (List ℕ) → List ℕ → Bool → RequestOf
  debug_wide : OfRun (List ℕ) → List ℕ → Bool → RequestOf
  testing : List (List ℕ) → Bool → Bool → Bool → RequestOf
  comparing : List ℕ → List ℕ → RequestOf
  comparing_files : List ℕ → List ℕ → RequestOf
  comparing_reach : ReachDiffOf → RequestOf
  comparing_reach_files : ReachDiffOf → RequestOf
  drawing : DrawingOf → RequestOf
  drawing_files : DrawingOf → RequestOf
  reaching : QuestionOf → RequestOf
  reaching_files : QuestionOf → RequestOf

-- what a request asks for
abbrev pub request_asked : Request → RequestOf
request_asked Joined = joined
request_asked (Check file) = check file.now
request_asked (CheckIncluding file) = check_files file.now
request_asked (CheckQueuesIncluding queues) = check_queue_files queues.now
request_asked (CheckBothIncluding files) = check_both_files files.plan.now files.queues.now
request_asked (CheckQueues queues) = check_queues queues.now
request_asked (CheckBoth files) = check_both files.plan.now files.queues.now
request_asked (Listing file) = listing file.now
request_asked (ListIncluding file) = listing_files file.now
request_asked (Audit file) = auditing file.now
request_asked (AuditBy file choice) = auditing_by file.now (choice_of choice)
request_asked (Match lookup all) = matching (lookup_of lookup) all
request_asked (MatchIncluding lookup all) = matching_files (lookup_of lookup) all
request_asked (Explain fault) = explaining fault
request_asked (Run files threads is_verbose) = run (paths_of files) threads is_verbose
request_asked (RunWide files is_verbose) = run_wide (paths_of files) is_verbose
request_asked (Debug files held is_verbose) = debug (paths_of files) held.now is_verbose
request_asked (DebugWide files held is_verbose) = debug_wide (paths_of files) held.now is_verbose
request_asked (Test files is_traced is_covered is_drawn) = testing (map (λ path. path.now) files.items) is_traced is_covered is_drawn
request_asked (Diff files) = comparing files.before.now files.after.now
request_asked (DiffIncluding files) = comparing_files files.before.now files.after.now
request_asked (ReachDiff question) = comparing_reach (reach_diff_of question)
request_asked (ReachDiffIncluding question) = comparing_reach_files (reach_diff_of question)
request_asked (Graph question) = drawing (drawing_of question)
request_asked (GraphIncluding question) = drawing_files (drawing_of question)
request_asked (Reach question) = reaching (question_of question)
request_asked (ReachIncluding question) = reaching_files (question_of question)
