use Rattle.std.proofs.Common.{Ok, subst, sym, ◌∙◌, ap}
use Rattle.std.proofs.lemmas.Result.{err_from_is_err_and}
use Rattle.dp_conf.specs.Answers.{Answers, Refuses}
use Rattle.dp_conf.specs.Lines.{lines_of, line_fault}
use Rattle.dp_conf.specs.Taking.{all_taken}
use Rattle.dp_plan.specs.steps.Loading.{after_one}
use Rattle.dp_plan.proofs.LoadingLemmas.{drafted_of-taken, Refuses-text}
use Rattle.dp_plan.proofs.plan_loading.read_draft.Goals as goal

pub returns : goal.returns
returns c =
    let both = c.in_ok-loading.ensures {u = tt} in
    let all = all_taken after_one c.new-loading.result (lines_of c.args.text.now) in
    let read = subst (λ r. Answers (λ done. c.take_lines-read.new.taker) line_fault r all) both.ok.0 c.take_lines-read.ensures.taken in
    rw (drafted_of-taken c.args.text.now c.new-loading.result c.in_ok-loading.loading c.new-loading.ensures (read ∙ ap (λ s. Ok s) (sym both.ok.1))) c.into_draft.ensures

pub returns-in_err-loading : goal.returns-in_err-loading
returns-in_err-loading c =
    let p = err_from_is_err_and c.from_residual.result c.from_residual.ensures.1 in
    let fault = c.in_err-loading.field-0.0 in
    let all = all_taken after_one c.new-loading.result (lines_of c.args.text.now) in
    let refused : Refuses (line_fault fault) all = subst (λ r. Answers (λ done. c.take_lines-read.new.taker) line_fault r all) (c.in_err-loading.ensures {u = tt}).err c.take_lines-read.ensures.taken in
    rw (p.1, p.2) (Refuses-text c.args.text.now c.new-loading.result fault refused)
