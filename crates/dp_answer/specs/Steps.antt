-- The steps of private functions. No public clause depends on them.
use Rattle.std.specs.Prelude.{◌≡◌, ℕ, Bool, true, false, List, ◌++◌, Option, Some, None, is_some}
use Rattle.std.specs.Global.{Vec}
use Rattle.dp_app.specs.Rows.{Meanings}
use Rattle.dp_answer.specs.Asks.{AskOf, is_lacking, outside_of}
use Rattle.dp_answer.specs.ReachAnswers.{Finds}
use Rattle.dp_answer.specs.Reports.{ReportOf, ToldText, answer_status, answer_text}
use Rattle.dp_answer.specs.declared.answer.OutsideQuestion.{OutsideQuestion}
use Rattle.dp_answer.specs.declared.reach_answer.ToldAnswer.{ToldAnswer}
use Rattle.dp_answer.specs.declared.report.Report.{Report}
use Rattle.dp_answer.specs.declared.terms.Terms.{Terms}
use Rattle.dp_answer.specs.declared.trails.Found.{Found}
use Rattle.dp_closed.specs.Answers.{answers_in, shown_outside}
use Rattle.dp_closed.specs.Claimed.{AreWays}
use Rattle.dp_plan.specs.Plan.{PlanOf}
use Rattle.dp_queue.specs.declared.settings.Settings.{Settings}
use Rattle.dp_reach.specs.Audits.{RunsOnly}

-- a call of the question runs only marked entries, with any queues that have the question's ways out
abbrev pub IsProvedBy : Meanings → OutsideQuestion → List (Vec Bool) → Type 0
IsProvedBy meanings question marks = (settings : List Settings) → AreWays settings question.ways.now
    → RunsOnly meanings (shown_outside question.outside.now) question.context.now question.plan.now settings (answers_in (Some marks))

-- the marks of the answer: those that were found, if they are proved
abbrev pub answers_by : Bool → List (Vec Bool) → Option (List (Vec Bool))
answers_by true marks = Some marks
answers_by false marks = None

abbrev pub answers_of : Found → Option (List (Vec Bool))
answers_of found = answers_by found.is_proved found.search.marks

-- the terms of a question that names no context which the dialplan lacks, with queues of these settings
pub record AreTerms (plan : PlanOf) (settings : List Settings) (ask : AskOf) (terms : Terms) : Type 0 where
  pub has_all : is_lacking plan ask ≡ false
  pub outside : shown_outside terms.outside ≡ outside_of plan ask
  pub ways : AreWays settings terms.ways.items

abbrev pub AreTermsIfAny : PlanOf → List Settings → AskOf → Option Terms → Type 0
AreTermsIfAny plan settings ask None = is_lacking plan ask ≡ true
AreTermsIfAny plan settings ask (Some terms) = AreTerms plan settings ask terms

-- a call that comes in at the context runs only entries in the answer, with any queues that have the ways out
abbrev pub IsFoundBy : Meanings → Terms → PlanOf → List ℕ → Found → Type 0
IsFoundBy meanings terms plan context found = (settings : List Settings) → AreWays settings terms.ways.items
    → RunsOnly meanings (shown_outside terms.outside) context plan settings (answers_in (answers_of found))

-- a report, as its text and status
abbrev pub shown_report : Report → ReportOf
shown_report report = record { text = report.text.items; status = report.status }

-- the report has these answers after a text
pub record IsTold (plan : PlanOf) (head : List ℕ) (marks : Option (List (Vec Bool))) (target : Option (List ℕ)) (report : ReportOf) : Type 0 where
  pub told : ToldText
  pub text : report.text ≡ head ++ answer_text plan (answers_in marks) target told
  pub status : report.status ≡ answer_status plan (answers_in marks) target

-- the finding and the status are those of the answer that was found
pub record IsToldBy (plan : PlanOf) (found : Found) (target : Option (List ℕ)) (told : ToldAnswer) : Type 0 where
  pub proved : told.is_proved ≡ found.is_proved
  pub finding : Finds plan (answers_in (answers_of found)) target told.finding
  pub status : told.status ≡ answer_status plan (answers_in (answers_of found)) target

-- the same for what was found on the terms of a question, with any queues that have the ways out
pub record IsToldOn (meanings : Meanings) (plan : PlanOf) (ask : AskOf) (terms : Terms) (told : ToldAnswer) : Type 0 where
  pub marks : Option (List (Vec Bool))
  pub runs : (settings : List Settings) → AreWays settings terms.ways.items
      → RunsOnly meanings (shown_outside terms.outside) ask.context plan settings (answers_in marks)
  pub proved : told.is_proved ≡ is_some marks
  pub finding : Finds plan (answers_in marks) ask.target told.finding
  pub status : told.status ≡ answer_status plan (answers_in marks) ask.target
