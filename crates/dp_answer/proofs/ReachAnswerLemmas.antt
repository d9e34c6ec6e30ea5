-- The parts of answers, and what is proved of them.
use Rattle.std.proofs.Common.{◌≡◌, ℕ, ◌+◌, List, [], ◌∷◌, ◌++◌, map, sym, ap, ap₂, subst, ◌∙◌}
use Rattle.std.specs.Global.{Vec}
use Rattle.std.specs.List.{range_with_len}
use Rattle.std.proofs.lemmas.List.{map-append}
use Rattle.dp_app.specs.Rows.{Meanings}
use Rattle.dp_answer.specs.Asks.{AskOf}
use Rattle.dp_answer.specs.ReachAnswers.{Finds, IsRightAnswer, entries_by_context}
use Rattle.dp_answer.specs.Steps.{AreTerms, IsToldOn}
use Rattle.dp_answer.specs.declared.reach_answer.ReachAnswer.{ReachAnswer}
use Rattle.dp_answer.specs.declared.reach_answer.ReachedContext.{ReachedContext}
use Rattle.dp_answer.specs.declared.reach_answer.ToldAnswer.{ToldAnswer}
use Rattle.dp_answer.specs.declared.terms.Terms.{Terms}
use Rattle.dp_answer.proofs.ReportLemmas.{range-next}
use Rattle.dp_closed.specs.Answers.{answers_in}
use Rattle.dp_plan.specs.Plan.{PlanOf}
use Rattle.dp_plan.specs.declared.entry.EntryId.{EntryId}
use Rattle.dp_queue.specs.declared.settings.Settings.{Settings}
use Rattle.dp_reach.specs.Audits.{Outside, RunsOnly}

-- one more context
pub contexts-next : (f : ℕ → List EntryId) (contexts pushed : List ReachedContext) (context : ReachedContext) (n : ℕ)
    → entries_by_context contexts ≡ map f (range_with_len 0 n) → pushed ≡ contexts ++ context ∷ [] → context.entries.items ≡ f n
    → entries_by_context pushed ≡ map f (range_with_len 0 (n + 1))
contexts-next f contexts pushed context n before added one =
    ap entries_by_context added
    ∙ (map-append (λ (c : ReachedContext). c.entries.items) contexts (context ∷ [])
    ∙ (ap₂ (λ (a : List (List EntryId)) (b : List EntryId). a ++ b ∷ []) before one
    ∙ (sym (map-append f (range_with_len 0 n) (n ∷ [])) ∙ ap (map f) (sym (range-next n)))))

-- a right answer
pub right_answer : (meanings : Meanings) (plan : PlanOf) (settings : List Settings) (ask : AskOf) (terms : Terms) (told : ToldAnswer) (answer : ReachAnswer)
    → AreTerms plan settings ask terms → IsToldOn meanings plan ask terms told → answer.starts ≡ terms.outside.contexts
    → answer.is_proved ≡ told.is_proved → answer.finding ≡ told.finding → answer.status ≡ told.status
    → IsRightAnswer meanings plan settings ask answer
right_answer meanings plan settings ask terms told answer are told_on starts proved finding status = record {
  has_all = are.has_all;
  marks = told_on.marks;
  runs = subst (λ (o : Outside). RunsOnly meanings o ask.context plan settings (answers_in told_on.marks)) are.outside (told_on.runs settings are.ways);
  starts = ap (λ (v : Vec (Vec ℕ)). map (λ name. name.items) v.items) starts ∙ ap (λ (o : Outside). o.contexts) are.outside;
  proved = proved ∙ told_on.proved;
  finding = subst (Finds plan (answers_in told_on.marks) ask.target) (sym finding) told_on.finding;
  status = status ∙ told_on.status;
}
