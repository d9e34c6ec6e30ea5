-- The answer to a question about phone calls that come in at a context, in parts, for other tools. It claims what the report claims: the
-- lines on how a call gets there, and those behind the answer, are not claimed.
use Rattle.std.specs.Prelude.{◌≡◌, ℕ, Bool, true, false, List, filter, length, map, Option, Some, None, is_some}
use Rattle.std.specs.Global.{Vec}
use Rattle.std.specs.List.{range_with_len}
use Rattle.dp_app.specs.Rows.{Meanings}
use Rattle.dp_answer.specs.Asks.{AskOf, is_lacking, outside_of, starts_of}
use Rattle.dp_answer.specs.Reached.{ids_at}
use Rattle.dp_answer.specs.Reports.{answer_status, may_reach}
use Rattle.dp_answer.specs.declared.reach_answer.ReachAnswer.{ReachAnswer}
use Rattle.dp_answer.specs.declared.reach_answer.ReachFinding.{ReachFinding}
use Rattle.dp_answer.specs.declared.reach_answer.ReachFinding.TheVariants.{Contexts, Target}
use Rattle.dp_answer.specs.declared.reach_answer.ReachedContext.{ReachedContext}
use Rattle.dp_closed.specs.Answers.{answers_in}
use Rattle.dp_plan.specs.Plan.{PlanOf}
use Rattle.dp_plan.specs.declared.entry.EntryId.{EntryId}
use Rattle.dp_queue.specs.declared.settings.Settings.{Settings}
use Rattle.dp_reach.specs.Audits.{RunsOnly}

-- the answers of each context, in the order of the dialplan
abbrev pub answers_by_context : PlanOf → (EntryId → Bool) → List (List EntryId)
answers_by_context plan answers = map (λ number. filter answers (ids_at plan number)) (range_with_len 0 (length plan.contexts))

-- the entries of each context of a finding
abbrev pub entries_by_context : List ReachedContext → List (List EntryId)
entries_by_context contexts = map (λ context. context.entries.items) contexts

-- the finding is that of the answers: without a target the answers of each context, with one whether one of its entries is among them
abbrev pub Finds : PlanOf → (EntryId → Bool) → Option (List ℕ) → ReachFinding → Type 0
Finds plan answers None (Contexts contexts) = entries_by_context contexts.items ≡ answers_by_context plan answers
Finds plan answers None (Target reached) = ⊥
Finds plan answers (Some target) (Contexts contexts) = ⊥
Finds plan answers (Some target) (Target reached) = reached ≡ may_reach plan answers target

-- an answer is right: a call that comes in at the context runs only entries among the answers, in each run with these meanings of the
-- dialplan with queues of these settings in which calls come in and names are set as the question says and no other dialplan is loaded;
-- and it tells of these entries, of where calls come in, and of whether that is proved, without which each entry is among the answers
pub record IsRightAnswer (meanings : Meanings) (plan : PlanOf) (settings : List Settings) (ask : AskOf) (answer : ReachAnswer) : Type 0 where
  pub has_all : is_lacking plan ask ≡ false
  pub marks : Option (List (Vec Bool))
  pub runs : RunsOnly meanings (outside_of plan ask) ask.context plan settings (answers_in marks)
  pub starts : map (λ name. name.items) answer.starts.items ≡ starts_of plan ask
  pub proved : answer.is_proved ≡ is_some marks
  pub finding : Finds plan (answers_in marks) ask.target answer.finding
  pub status : answer.status ≡ answer_status plan (answers_in marks) ask.target

-- an answer, or none if the dialplan lacks a name in the question
abbrev pub IsAnswerTo : Meanings → PlanOf → List Settings → AskOf → Option ReachAnswer → Type 0
IsAnswerTo meanings plan settings ask None = is_lacking plan ask ≡ true
IsAnswerTo meanings plan settings ask (Some answer) = IsRightAnswer meanings plan settings ask answer
