use Rattle.std.proofs.Common.{Ok, subst, sym, ◌∙◌, ap}
use Rattle.std.proofs.lemmas.Result.{err_from_is_err_and}
use Rattle.dp_conf.specs.Answers.{Answers, Refuses}
use Rattle.dp_conf.specs.Lines.{lines_of, line_fault}
use Rattle.dp_conf.specs.Taking.{all_taken}
use Rattle.dp_plan.specs.steps.Sifting.{after_any}
use Rattle.dp_plan.proofs.SiftingLemmas.{faults_of-taken, Refuses-faults}
use Rattle.dp_plan.proofs.all_faults.plan_faults.Goals as goal

pub returns : goal.returns
returns c =
    let both = c.in_ok-found.ensures {u = tt} in
    let all = all_taken after_any c.new-found.result (lines_of c.args.text.now) in
    let read = subst (λ r. Answers (λ done. c.take_lines-read.new.taker) line_fault r all) both.ok.0 c.take_lines-read.ensures.taken in
    rw (c.into_faults.ensures) (faults_of-taken c.args.text.now c.new-found.result c.in_ok-found.found c.new-found.ensures (read ∙ ap (λ s. Ok s) (sym both.ok.1)))

pub returns-in_err-found : goal.returns-in_err-found
returns-in_err-found c =
    let p = err_from_is_err_and c.from_residual.result c.from_residual.ensures.1 in
    let fault = c.in_err-found.field-0.0 in
    let all = all_taken after_any c.new-found.result (lines_of c.args.text.now) in
    let refused : Refuses (line_fault fault) all = subst (λ r. Answers (λ done. c.take_lines-read.new.taker) line_fault r all) (c.in_err-found.ensures {u = tt}).err c.take_lines-read.ensures.taken in
    rw (p.1, p.2) (Refuses-faults c.args.text.now c.new-found.result fault refused)
