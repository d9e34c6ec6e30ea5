-- What is written about what a call from a context reaches in two dialplans, before and after a change.
use Rattle.std.specs.Prelude.{◌≡◌, ◌⊎◌, ◌&&◌, ◌==◌, ℕ, Bool, List, [], ◌++◌, length, Option, None, Result, Ok, Err, if◌then◌else◌}
use Rattle.std.specs.Io.KnownBytes.{Appends}
use Rattle.dp_answer.specs.Asks.{AskOf}
use Rattle.dp_answer.specs.Reached.{AreReached}
use Rattle.dp_app.specs.Rows.{Meanings}
use Rattle.dp_commands.specs.declared.fault.Code.TheVariants.{WriteFailed}
use Rattle.dp_commands.specs.declared.fault.PbxFault.{PbxFault}
use Rattle.dp_commands.specs.declared.fault.PbxFault.TheVariants.{Coded, NoMemory}
use Rattle.dp_conf.specs.Fronts.{AppendsFront}
use Rattle.dp_diff.specs.Reaches.{ReachOf, has_entry_of, reach_count, reach_text}
use Rattle.dp_plan.specs.Plan.{PlanOf}
use Rattle.dp_plan.specs.declared.entry.EntryId.{EntryId}
use Rattle.dp_program.specs.Diffs.{OnBoth}
use Rattle.dp_program.specs.Files.{ByteSource}
use Rattle.dp_program.specs.Graphs.{ask_from}
use Rattle.dp_program.specs.Meanings.{wide_meanings}
use Rattle.dp_program.specs.PlanQuestions.{OverBothIncluded, Serving}
use Rattle.dp_program.specs.Reaches.{told_of_name}
use Rattle.dp_program.specs.Requests.{ReachDiffOf}
use Rattle.dp_program.specs.declared.fault_places.Faulted.{Faulted}
use Rattle.dp_program.specs.declared.hints.ServedRequest.{ServedRequest}

-- ---- what is reached

-- the entries that a call may run before a change of a dialplan, and after it
pub record ReachedOf : Type 0 where
  pub before : List EntryId
  pub after : List EntryId

abbrev pub reached_by : List EntryId → List EntryId → ReachedOf
reached_by before after = record { before = before; after = after }

-- the question about calls that come in at the context, whatever is dialled and wherever other calls come in
abbrev pub asked_of : ReachDiffOf → AskOf
asked_of question = ask_from question.facts question.from

-- a call that comes in with this question may run these entries of the dialplans, without queues
pub record AreReachedBoth (meanings : Meanings) (plans : PlanOf × PlanOf) (ask : AskOf) (reached : ReachedOf) : Type 0 where
  pub before : AreReached meanings plans.0 [] ask reached.before
  pub after : AreReached meanings plans.1 [] ask reached.after

-- a dialplan, and in which of its contexts are these entries
abbrev pub reach_in : PlanOf → List EntryId → ReachOf
reach_in plan entries = record { plan = plan; has_entry = has_entry_of entries }

-- the lines of the contexts that a call reaches only before the change, and then of those that it reaches only after it
abbrev pub changes_text : PlanOf × PlanOf → ReachedOf → List ℕ
changes_text plans reached = reach_text (reach_in plans.0 reached.before) (reach_in plans.1 reached.after)

-- how many these are
abbrev pub changes_count : PlanOf × PlanOf → ReachedOf → ℕ
changes_count plans reached = reach_count (reach_in plans.0 reached.before) (reach_in plans.1 reached.after)

-- ---- what is written

-- the hints on the context, if a dialplan lacks it
abbrev pub hint_of : ReachDiffOf → Bool → PlanOf × PlanOf → List ℕ
hint_of question explains plans =
    told_of_name question.before explains plans.0 question.from ++ told_of_name question.after explains plans.1 question.from

-- the status: 1 if a line is written, or if there is a hint
abbrev pub status_of : ℕ → List ℕ → ℕ
status_of count hint = if (count == 0) && (length hint == 0) then 0 else 1

-- all lines were written
pub record ChangesWhole (meanings : Meanings) (question : ReachDiffOf) (explains : Bool) (plans : PlanOf × PlanOf) (old new : Option (List ℕ)) (served : ServedRequest) : Type 0 where
  pub reached : ReachedOf
  pub right : AreReachedBoth meanings plans (asked_of question) reached
  pub written : Appends old new (changes_text plans reached)
  pub told : served.hint.items ≡ hint_of question explains plans
  pub status : served.status ≡ status_of (changes_count plans reached) served.hint.items

-- a prefix of them was written
pub record ChangesFront (meanings : Meanings) (question : ReachDiffOf) (plans : PlanOf × PlanOf) (old new : Option (List ℕ)) : Type 0 where
  pub reached : ReachedOf
  pub right : AreReachedBoth meanings plans (asked_of question) reached
  pub written : AppendsFront old new (changes_text plans reached)

-- the output and result, given both dialplans or the first fault
abbrev pub ReachChanges : Meanings → ReachDiffOf → Bool → Result (PlanOf × PlanOf) PbxFault → Option (List ℕ) → Option (List ℕ) → Result ServedRequest PbxFault → Type 0
ReachChanges meanings question explains (Ok plans) old new (Ok served) = ChangesWhole meanings question explains plans old new served
ReachChanges meanings question explains (Ok plans) old new (Err (Coded code line)) =
    ChangesFront meanings question plans old new × (code ≡ WriteFailed) × (line ≡ None)
ReachChanges meanings question explains (Ok plans) old new (Err NoMemory) = Appends old new [] ⊎ ChangesFront meanings question plans old new
ReachChanges meanings question explains (Err fault) old new (Ok served) = ⊥
ReachChanges meanings question explains (Err fault) old new (Err (Coded code line)) = Appends old new [] × (fault ≡ Coded code line)
ReachChanges meanings question explains (Err fault) old new (Err NoMemory) = Appends old new []

-- the same for the dialplans of two files, with the place of the fault
abbrev pub ReachDiffsFiles : Meanings → ReachDiffOf → Bool → Serving
ReachDiffsFiles meanings question explains files old new answered =
    OnBoth (λ given. ReachChanges meanings question explains given old new) files question.before question.after answered

-- the same for these files and those that they include, over the wide table
abbrev pub ReachDiffsIncluding : Option (List ℕ) → (List ℕ → ByteSource) → ReachDiffOf → Bool → Option (List ℕ) → Option (List ℕ) → Result ServedRequest Faulted → Type 0
ReachDiffsIncluding clock files question explains old new answered =
    OverBothIncluded (ReachDiffsFiles wide_meanings question explains) clock files question.before question.after old new answered

-- the output and result of the lines on what a call reaches: the lines or, if a write fails or memory runs out, a prefix of them; and whether
-- there are any
abbrev pub WritesChanges : Option (List ℕ) → Option (List ℕ) → PlanOf × PlanOf → ReachedOf → Result Bool PbxFault → Type 0
WritesChanges old new plans reached (Ok is_same) = Appends old new (changes_text plans reached) × (is_same ≡ (changes_count plans reached == 0))
WritesChanges old new plans reached (Err (Coded code line)) = AppendsFront old new (changes_text plans reached) × (code ≡ WriteFailed) × (line ≡ None)
WritesChanges old new plans reached (Err NoMemory) = AppendsFront old new (changes_text plans reached)
