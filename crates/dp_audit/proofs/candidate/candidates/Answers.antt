use Rattle.std.proofs.Common.{◌≡◌, List, IfOk, Result, Ok, Err, sym, ap, ◌∙◌, subst}
use Rattle.std.specs.Prelude.{All}
use Rattle.std.specs.List.{find}
use Rattle.std.specs.Option.{option_map}
use Rattle.dp_lookup.specs.FoundEntry.{found_entry}
use Rattle.dp_audit.specs.Candidates.{all_matching, answer_of, answers, candidates_of, IsOfAnswer}
use Rattle.dp_audit.specs.declared.candidate.Candidate.{Candidate}
use Rattle.dp_audit.proofs.CandidatesLemmas.{answer-found, answer-candidate_of, only-candidate_of}
use Rattle.dp_audit.proofs.candidate.candidates.Goals as goal

weaker : {X E : Type 0} (r : Result X E) (P Q : X → Type 0) → ((x : X) → P x → Q x) → IfOk r P → IfOk r Q
weaker (Ok x) P Q gives holds = gives x holds
weaker (Err e) P Q gives holds = tt

pub returns-clause-exact : goal.returns-clause-exact
unfolding candidates_of
returns-clause-exact c =
    let plan = c.args.plan.now in
    let order = c.args.order.now.contexts in
    let text = c.args.text.now in
    let all : c.in_ok-list.list.items ≡ all_matching plan order text c.args.priority =
    c.in_ok-list.ensures ∙ ap (λ numbers. all_matching plan numbers text c.args.priority) c.contexts.ensures in
    let answer : c.answer_of.result ≡ found_entry plan order text c.args.priority =
    c.answer_of.ensures ∙ (ap answer_of (c.deref.ensures.value ∙ all) ∙ answer-found plan c.show_entries_known.ensures.named c.show_entries_known.ensures.apart order text c.args.priority) in
    rw (← answer, ← all, ← c.deref-2.ensures.value) c.judge.ensures

pub returns-clause-answer : goal.returns-clause-answer
unfolding candidates_of
returns-clause-answer c =
    let plan = c.args.plan.now in
    let order = c.args.order.now.contexts in
    let text = c.args.text.now in
    let found = found_entry plan order text c.args.priority in
    weaker c.judge.result _ _
    (λ list same. ap (λ (l : List Candidate). option_map (λ (k : Candidate). k.id) (find answers l)) same
    ∙ answer-candidate_of found (all_matching plan order text c.args.priority) (answer-found plan c.show_entries_known.ensures.named c.show_entries_known.ensures.apart order text c.args.priority))
    (returns-clause-exact c)

pub returns-clause-only : goal.returns-clause-only
unfolding candidates_of
returns-clause-only c =
    let plan = c.args.plan.now in
    let order = c.args.order.now.contexts in
    let text = c.args.text.now in
    let found = found_entry plan order text c.args.priority in
    weaker c.judge.result _ _
    (λ list same. subst (λ (l : List Candidate). All (IsOfAnswer found) l) (sym same) (only-candidate_of found (all_matching plan order text c.args.priority)))
    (returns-clause-exact c)
