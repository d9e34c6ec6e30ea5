use Rattle.std.proofs.Common.{◌≡◌, ◌++◌, List, ℕ, ap, append_assoc, ◌∙◌, option_map}
use Rattle.dp_answer.specs.Reports.{chain_at, lines_of}
use Rattle.dp_closed.specs.Answers.{answers_in}
use Rattle.dp_answer.proofs.ReportLemmas.{told-next}
use Rattle.dp_answer.proofs.report.push_all.Goals as goal

pub loop-number-preserved : goal.loop-number-preserved
loop-number-preserved c =
    let lines : List ℕ = lines_of c.args.plan.now (answers_in (option_map (λ marks. marks.now) c.args.answers)) c.loop-number.number in
    let chain : List ℕ = chain_at c.args.chains.now c.loop-number.number in
    let added : c.extend_from_slice.new.self.items ≡ c.push_lines.new.out.items ++ c.chain_at.result.now = c.in_ok-extend_from_slice.ensures.items in
    added
    ∙ (ap (λ more. c.push_lines.new.out.items ++ more) c.chain_at.ensures
    ∙ (ap (λ before. before ++ chain) c.in_ok-push_lines.ensures
    ∙ (append_assoc c.loop-number.out.items lines chain
    ∙ (ap (λ before. before ++ (lines ++ chain)) c.loop-number.invariant
    ∙ told-next (λ number. lines_of c.args.plan.now (answers_in (option_map (λ marks. marks.now) c.args.answers)) number ++ chain_at c.args.chains.now number) c.args.out.now.items c.loop-number.number))))
