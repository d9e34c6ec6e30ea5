use Rattle.std.proofs.Common.{rules, Ok, sym, ap, ◌∙◌}
use Rattle.std.proofs.lemmas.Result.{err_from_is_err_and}
use Rattle.dp_conf.proofs.AnswersLemmas.{Refuses-passed_on}
use Rattle.dp_plan.specs.Faults.{reason_of}
use Rattle.dp_plan.specs.Loaded.{plan_and_notes}
use Rattle.dp_plan.specs.steps.Loading.{drafted_of}
use Rattle.dp_plan.proofs.LoadingLemmas.{plan_of_draft, plan_in, plan_and_notes-drafted, lines_of_draft, lines_loaded-drafted, drafted-fit}
use Rattle.dp_plan.proofs.plan.Dialplan.load_with_lines.Goals as goal

pub returns-in_err-draft-clause-plan : goal.returns-in_err-draft-clause-plan
returns-in_err-draft-clause-plan c =
    let text = c.args.text.now in
    let p = err_from_is_err_and c.from_residual.result c.from_residual.ensures.1 in
    rw (p.1, p.2) (Refuses-passed_on (reason_of c.in_err-draft.field-0.0) (drafted_of text) (plan_and_notes text)
    (λ fault e. sym (plan_and_notes-drafted text) ∙ ap plan_of_draft e) c.in_err-draft.ensures)

pub into_plan-requires-clause-names : goal.into_plan-requires-clause-names
into_plan-requires-clause-names c = (drafted-fit c.args.text.now c.in_ok-draft.draft c.in_ok-draft.ensures).names

pub into_plan-requires-clause-apart : goal.into_plan-requires-clause-apart
into_plan-requires-clause-apart c = (drafted-fit c.args.text.now c.in_ok-draft.draft c.in_ok-draft.ensures).apart

pub into_plan-requires-clause-numbered : goal.into_plan-requires-clause-numbered
into_plan-requires-clause-numbered c = (drafted-fit c.args.text.now c.in_ok-draft.draft c.in_ok-draft.ensures).numbered

-- the text itself loads as the dialplan
pub into_plan-requires-clause-loaded : goal.into_plan-requires-clause-loaded
into_plan-requires-clause-loaded c = record {
  text = c.args.text.now;
  bytes = search rules;
  notes = (plan_in c.in_ok-draft.draft).1;
  loads = sym (plan_and_notes-drafted c.args.text.now) ∙ ap plan_of_draft c.in_ok-draft.ensures;
}

pub returns-clause-plan : goal.returns-clause-plan
returns-clause-plan c =
    sym (plan_and_notes-drafted c.args.text.now)
    ∙ (ap plan_of_draft c.in_ok-draft.ensures
    ∙ (λ i. Ok (sym c.in_ok-loaded.ensures.plan i, sym c.in_ok-loaded.ensures.notes i)))

pub returns-clause-lines : goal.returns-clause-lines
returns-clause-lines c =
    sym (lines_loaded-drafted c.args.text.now)
    ∙ (ap lines_of_draft c.in_ok-draft.ensures
    ∙ (λ i. Ok (sym c.in_ok-loaded.ensures.lines i)))

pub returns-clause-each : goal.returns-clause-each
returns-clause-each c =
    rw (c.in_ok-loaded.ensures.plan, c.in_ok-loaded.ensures.lines) (drafted-fit c.args.text.now c.in_ok-draft.draft c.in_ok-draft.ensures).lined
