use Rattle.std.proofs.Common.{ℕ, ap, sym, subst, ◌∙◌, Option, Some, MatchOption}
use Rattle.std.specs.Option.{option_and_then, option_map}
use Rattle.dp_plan.specs.declared.entry.Entry.{Entry}
use Rattle.dp_lookup.specs.Found.{HasLabel, NoneAsked, IsFoundLabel}
use Rattle.dp_lookup.specs.FoundEntry.{priority_at, found_label}
use Rattle.dp_lookup.proofs.FoundLemmas.{found_label-least, label_once}
use Rattle.dp_lookup.proofs.look_up.find_label.Goals as goal

pub returns-in_err-id-clause-value : goal.returns-in_err-id-clause-value
unfolding found_label
returns-in_err-id-clause-value c =
    rw (← c.contexts.ensures) (c.from_residual.ensures ∙ ap (option_and_then (priority_at c.args.plan.now)) c.in_err-id.ensures)

pub returns-in_err-id-clause-found : goal.returns-in_err-id-clause-found
returns-in_err-id-clause-found c =
    rw (returns-in_err-id-clause-value c) (found_label-least c.args.plan.now c.args.order.now.contexts c.args.text.now c.args.label.now)

pub returns-in_err-id-clause-once : goal.returns-in_err-id-clause-once
returns-in_err-id-clause-once c = label_once c.args.plan.now c.args.order.now.contexts c.args.text.now c.args.label.now

pub returns-clause-value : goal.returns-clause-value
unfolding found_label
returns-clause-value c =
    rw (← c.contexts.ensures)
    (ap Some c.get.ensures.number
    ∙ (ap (option_map (λ (entry : Entry). entry.priority)) c.in_ok-entry.ensures
    ∙ ap (option_and_then (priority_at c.args.plan.now)) c.in_ok-id.ensures))

pub returns-clause-found : goal.returns-clause-found
returns-clause-found c =
    let plan = c.args.plan.now in
    let order = c.args.order.now.contexts in
    let text = c.args.text.now in
    let label = c.args.label.now in
    let P : Option ℕ → Type 0 = λ o. MatchOption o (NoneAsked (HasLabel text label) plan order) (IsFoundLabel plan order text label) in
    subst P (sym (returns-clause-value c)) (found_label-least plan order text label)

pub returns-clause-once : goal.returns-clause-once
returns-clause-once c = label_once c.args.plan.now c.args.order.now.contexts c.args.text.now c.args.label.now

pub returns-in_err-entry-clause-value : goal.returns-in_err-entry-clause-value
unfolding found_label
returns-in_err-entry-clause-value c =
    rw (← c.contexts.ensures)
    (c.from_residual-in_err-entry.ensures
    ∙ (ap (option_map (λ (entry : Entry). entry.priority)) c.in_err-entry.ensures
    ∙ ap (option_and_then (priority_at c.args.plan.now)) c.in_ok-id.ensures))

pub returns-in_err-entry-clause-found : goal.returns-in_err-entry-clause-found
returns-in_err-entry-clause-found c =
    rw (returns-in_err-entry-clause-value c) (found_label-least c.args.plan.now c.args.order.now.contexts c.args.text.now c.args.label.now)

pub returns-in_err-entry-clause-once : goal.returns-in_err-entry-clause-once
returns-in_err-entry-clause-once c = label_once c.args.plan.now c.args.order.now.contexts c.args.text.now c.args.label.now
