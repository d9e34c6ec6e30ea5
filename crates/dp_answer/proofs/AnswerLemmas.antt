-- The reports of answers, and what is proved of them.
use Rattle.std.proofs.Common.{◌≡◌, ℕ, Bool, true, false, List, ◌++◌, Option, Some, None, IsTrue, map, refl, sym, ap, subst, ◌∙◌}
use Rattle.std.specs.Prelude.{is_some}
use Rattle.std.specs.Global.{Vec}
use Rattle.std.specs.Option.{option_map_or}
use Rattle.dp_app.specs.Rows.{Meanings}
use Rattle.dp_answer.specs.Asks.{AskOf, is_lacking, outside_of, starts_of}
use Rattle.dp_answer.specs.Reports.{IsReport, IsReportBy, IsRight, ReportOf, ToldText, answer_text, assumptions, has_answer, head_text, may_reach, nothing_told, status_by, no_proof_line, verdict}
use Rattle.dp_answer.specs.Steps.{AreTerms, IsFoundBy, IsTold, answers_by, answers_of}
use Rattle.dp_answer.specs.declared.terms.Terms.{Terms}
use Rattle.dp_answer.specs.declared.trails.Found.{Found}
use Rattle.dp_closed.specs.Answers.{answers_in, shown_outside}
use Rattle.dp_plan.specs.Lookup.{number_of}
use Rattle.dp_plan.specs.Plan.{PlanOf}
use Rattle.dp_queue.specs.declared.settings.Settings.{Settings}
use Rattle.dp_reach.specs.Audits.{Outside, RunsOnly}

-- if no answer is proved each entry is reported, and none but these runs
pub runs-told : (meanings : Meanings) (outside : Outside) (context : List ℕ) (plan : PlanOf) (settings : List Settings) (is_proved : Bool) (marks : List (Vec Bool))
    → (IsTrue is_proved → RunsOnly meanings outside context plan settings (answers_in (Some marks)))
    → RunsOnly meanings outside context plan settings (answers_in (answers_by is_proved marks))
runs-told meanings outside context plan settings true marks proved = proved refl
runs-told meanings outside context plan settings false marks proved = λ queues before later exten caller number same from started b l id split ran. refl

-- if no proof was found there are no marks
found-marks : (is_proved : Bool) (marks : List (Vec Bool)) → is_some (answers_by is_proved marks) ≡ is_proved
found-marks true marks = refl
found-marks false marks = refl

-- a report of proved answers is right
pub right-told : (meanings : Meanings) (plan : PlanOf) (settings : List Settings) (ask : AskOf) (report : ReportOf) (outside : Outside) (is_proved : Bool) (marks : List (Vec Bool))
    → outside ≡ outside_of plan ask → RunsOnly meanings outside ask.context plan settings (answers_in (answers_by is_proved marks))
    → IsTold plan (assumptions ask outside.contexts ++ no_proof_line is_proved) (answers_by is_proved marks) ask.target report → IsRight meanings plan settings ask report
right-told meanings plan settings ask report outside is_proved marks same runs told =
    let answers : Option (List (Vec Bool)) = answers_by is_proved marks in
    let head : assumptions ask outside.contexts ++ no_proof_line is_proved ≡ head_text plan ask answers =
    ap (λ (o : Outside). assumptions ask o.contexts ++ no_proof_line is_proved) same
    ∙ ap (λ b. assumptions ask (starts_of plan ask) ++ no_proof_line b) (sym (found-marks is_proved marks)) in
    record {
      marks = answers;
      runs = subst (λ (o : Outside). RunsOnly meanings o ask.context plan settings (answers_in answers)) same runs;
      told = told.told;
      text = told.text ∙ ap (λ h. h ++ answer_text plan (answers_in answers) ask.target told.told) head;
      status = told.status;
    }

-- a report on all entries gives the answers
pub told-all : (plan : PlanOf) (head : List ℕ) (marks found : Option (List (Vec Bool))) (told : ToldText) (report : ReportOf)
    → marks ≡ found → report.text ≡ head ++ answer_text plan (answers_in marks) None told → report.status ≡ 0 → IsTold plan head found None report
told-all plan head marks found told report same text status = record {
  told = told;
  text = text ∙ ap (λ m. head ++ answer_text plan (answers_in m) None told) same;
  status = status;
}

-- and so does one on a named context
pub told-target : (plan : PlanOf) (head : List ℕ) (marks found : Option (List (Vec Bool))) (name : List ℕ) (number : Option ℕ) (reached : Bool)
    (told : ToldText) (report : ReportOf)
    → marks ≡ found → number ≡ number_of plan name → reached ≡ option_map_or (has_answer plan (answers_in marks)) number false
    → report.text ≡ head ++ (verdict name reached ++ told.tail) → report.status ≡ status_by reached → IsTold plan head found (Some name) report
told-target plan head marks found name number reached told report same numbered reaches text status =
    let right : reached ≡ may_reach plan (answers_in found) name =
    reaches ∙ (ap (λ n. option_map_or (has_answer plan (answers_in marks)) n false) numbered ∙ ap (λ m. may_reach plan (answers_in m) name) same) in
    record {
      told = told;
      text = text ∙ ap (λ r. head ++ (verdict name r ++ told.tail)) right;
      status = status ∙ ap status_by right;
    }

-- a report if a named context is missing, and if none is
pub lacking-report : (meanings : Meanings) (plan : PlanOf) (settings : List Settings) (ask : AskOf) (report : ReportOf)
    → is_lacking plan ask ≡ true → report ≡ nothing_told → IsReport meanings plan settings ask report
lacking-report meanings plan settings ask report lacks nothing = subst (λ b. IsReportBy meanings b plan settings ask report) (sym lacks) nothing

pub right-report : (meanings : Meanings) (plan : PlanOf) (settings : List Settings) (ask : AskOf) (report : ReportOf)
    → is_lacking plan ask ≡ false → IsRight meanings plan settings ask report → IsReport meanings plan settings ask report
right-report meanings plan settings ask report lacks right = subst (λ b. IsReportBy meanings b plan settings ask report) (sym lacks) right

-- a report of what was found on the terms of the question
pub found-report : (meanings : Meanings) (plan : PlanOf) (settings : List Settings) (ask : AskOf) (terms : Terms) (found : Found) (starts : List (Vec ℕ)) (report : ReportOf)
    → AreTerms plan settings ask terms → IsFoundBy meanings terms plan ask.context found → starts ≡ terms.outside.contexts.items
    → IsTold plan (assumptions ask (map (λ name. name.items) starts) ++ no_proof_line found.is_proved) (answers_of found) ask.target report
    → IsReport meanings plan settings ask report
found-report meanings plan settings ask terms found starts report are found_by same told =
    let told_in : List (Vec ℕ) → Type 0 = λ names. IsTold plan (assumptions ask (map (λ name. name.items) names) ++ no_proof_line found.is_proved) (answers_of found) ask.target report in
    right-report meanings plan settings ask report are.has_all
    (right-told meanings plan settings ask report (shown_outside terms.outside) found.is_proved found.search.marks are.outside (found_by settings are.ways) (subst told_in same told))
