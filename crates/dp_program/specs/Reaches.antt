-- The output and result of a question about phone calls that come in at a context.
use Rattle.std.specs.Prelude.{◌≡◌, ℕ, Bool, true, false, List, [], ◌++◌, map, Option, Some, None, Result, Ok, Err, if◌then◌else◌}
use Rattle.std.specs.Io.KnownBytes.{Appends}
use Rattle.std.specs.List.{flat_map}
use Rattle.std.specs.Option.{option_map_or}
use Rattle.dp_answer.specs.Asks.{AskOf, target_names}
use Rattle.dp_answer.specs.ReachAnswers.{IsAnswerTo}
use Rattle.dp_answer.specs.Reports.{IsReport, ReportOf, nothing_told}
use Rattle.dp_answer.specs.declared.reach_answer.ReachAnswer.{ReachAnswer}
use Rattle.dp_app.specs.Rows.{Meanings}
use Rattle.dp_conf.specs.Fronts.{AppendsFront}
use Rattle.dp_conf.specs.Levels.{arguments_of}
use Rattle.dp_plan.specs.Lookup.{number_of}
use Rattle.dp_plan.specs.Plan.{PlanOf}
use Rattle.dp_commands.specs.Run.{LoadedFilesOf}
use Rattle.dp_commands.specs.declared.fault.Code.TheVariants.{WriteFailed}
use Rattle.dp_commands.specs.declared.fault.PbxFault.{PbxFault}
use Rattle.dp_commands.specs.declared.fault.PbxFault.TheVariants.{Coded, NoMemory}
use Rattle.dp_program.specs.Files.{ByteSource}
use Rattle.dp_program.specs.Hints.{bare_line, is_bare, lacking, name_told}
use Rattle.dp_program.specs.Meanings.{wide_meanings}
use Rattle.dp_program.specs.PlanAndQueues.{OnFiles}
use Rattle.dp_program.specs.PlanQuestions.{OverIncluded}
use Rattle.dp_json.specs.Reaches.{reach_text}
use Rattle.dp_program.specs.Requests.{OptionsOf, QuestionOf}
use Rattle.dp_queue.specs.declared.settings.Settings.{Settings}
use Rattle.dp_program.specs.ScriptAssumptions.{look_up_use}
use Rattle.dp_program.specs.declared.fault_places.Faulted.{Faulted}
use Rattle.dp_program.specs.declared.hints.ServedRequest.{ServedRequest}

-- the hint on the name of a context in a file
abbrev pub told_of_name : List ℕ → Bool → PlanOf → List ℕ → List ℕ
told_of_name file explains plan name = name_told file name explains plan (number_of plan name)

-- the hints on a dialplan: that the file may not be a dialplan, or which named contexts it lacks, in this order: the context, the target,
-- the contexts where other calls come in
abbrev pub hint_of : List ℕ → AskOf → Bool → PlanOf → List ℕ
hint_of file ask explains plan =
    if is_bare plan then bare_line file (lacking plan)
    else told_of_name file explains plan ask.context ++ flat_map (told_of_name file explains plan) (target_names ask.target)
    ++ flat_map (told_of_name file explains plan) (option_map_or arguments_of ask.starts [])

-- the settings of the queues of files
abbrev pub settings_of : LoadedFilesOf → List Settings
settings_of files = map (λ queue. queue.settings) files.queues.queues

-- the report of an answer as JSON; the report for names that the dialplan lacks is empty
abbrev pub json_report : PlanOf → AskOf → Option ReachAnswer → ReportOf
json_report plan ask None = nothing_told
json_report plan ask (Some answer) = record { text = reach_text plan ask answer; status = answer.status }

-- the report is that of a correct answer
pub record IsJson (meanings : Meanings) (files : LoadedFilesOf) (ask : AskOf) (report : ReportOf) : Type 0 where
  pub answer : Option ReachAnswer
  pub right : IsAnswerTo meanings files.plan (settings_of files) ask answer
  pub told : report ≡ json_report files.plan ask answer

-- the report is correct, as text or as JSON
abbrev pub IsReported : Bool → Meanings → LoadedFilesOf → AskOf → ReportOf → Type 0
IsReported false meanings files ask report = IsReport meanings files.plan (settings_of files) ask report
IsReported true meanings files ask report = IsJson meanings files ask report

-- the report on these files is correct, with these hints
pub record IsAnswered (meanings : Meanings) (question : QuestionOf) (options : OptionsOf) (files : LoadedFilesOf) (text : List ℕ) (status : ℕ) (hint : List ℕ) : Type 0 where
  pub report : IsReported options.is_json meanings files question.ask (record { text = text; status = status })
  pub told : hint ≡ hint_of question.file question.ask options.explains files.plan

-- the whole of a correct report was written
pub record WritesReachReport (meanings : Meanings) (question : QuestionOf) (options : OptionsOf) (files : LoadedFilesOf) (old new : Option (List ℕ)) (served : ServedRequest) : Type 0 where
  pub text : List ℕ
  pub answered : IsAnswered meanings question options files text served.status served.hint.items
  pub written : Appends old new text

-- a write of a correct report failed
pub record WritesFront (meanings : Meanings) (question : QuestionOf) (options : OptionsOf) (files : LoadedFilesOf) (old new : Option (List ℕ)) : Type 0 where
  pub text : List ℕ
  pub status : ℕ
  pub hint : List ℕ
  pub answered : IsAnswered meanings question options files text status hint
  pub written : AppendsFront old new text

-- the output and result of a question, given its files or the first fault of their texts
abbrev pub Reaches : Meanings → QuestionOf → OptionsOf → Result LoadedFilesOf PbxFault → Option (List ℕ) → Option (List ℕ) → Result ServedRequest PbxFault → Type 0
Reaches meanings question options (Ok files) old new (Ok served) = WritesReachReport meanings question options files old new served
Reaches meanings question options (Ok files) old new (Err (Coded code line)) =
    WritesFront meanings question options files old new × (code ≡ WriteFailed) × (line ≡ None)
Reaches meanings question options (Ok files) old new (Err NoMemory) = Appends old new []
Reaches meanings question options (Err fault) old new (Ok served) = ⊥
Reaches meanings question options (Err fault) old new (Err (Coded code line)) = Appends old new [] × (fault ≡ Coded code line)
Reaches meanings question options (Err fault) old new (Err NoMemory) = Appends old new []

-- the output and result of a question on the files at its paths, and the place of its fault
abbrev pub ReachesFiles : Meanings → (List ℕ → ByteSource) → QuestionOf → OptionsOf → Option (List ℕ) → Option (List ℕ) → Result ServedRequest Faulted → Type 0
ReachesFiles meanings files question options old new answered =
    OnFiles (λ given. Reaches meanings question options given old new) files question.file question.queues answered

-- the same for the dialplan and the queues at these paths and the files that they include, over the wide table
abbrev pub ReachesIncluding : (List ℕ → ByteSource) → QuestionOf → OptionsOf → Option (List ℕ) → Option (List ℕ) → Result ServedRequest Faulted → Type 0
ReachesIncluding files question options old new answered =
    OverIncluded (λ files. ReachesFiles wide_meanings files question options) (look_up_use options) options.clock files question.file question.queues old new answered
