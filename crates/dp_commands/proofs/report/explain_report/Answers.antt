use Rattle.std.proofs.Common.{ℕ, List, map, Bor, Result, Ok, sym, ap, ◌∙◌}
use Rattle.dp_conf.specs.Answers.{◌>>=◌}
use Rattle.dp_conf.specs.Lines.{parts_of}
use Rattle.dp_plan.specs.Plan.{PlanOf}
use Rattle.dp_plan.specs.declared.note.Note.{Note}
use Rattle.dp_commands.specs.Report.{check_explained_of, explained_text}
use Rattle.dp_commands.specs.declared.fault.PbxFault.{PbxFault}
use Rattle.dp_commands.proofs.report.explain_report.Goals as goal

-- the lines that were made are those of the text
pub returns-clause-text : goal.returns-clause-text
unfolding check_explained_of
returns-clause-text c =
    let path = c.args.path.now in
    let parts = parts_of c.args.plan.now in
    let lines = ap (λ (lines : List (Bor (List ℕ))). map (λ line. line.now) lines) c.deref.ensures.value ∙ c.in_ok-lines.ensures in
    let with_lines = ap (λ (lines : List (List ℕ)). explained_text path lines (c.in_ok-read.read.plan, c.deref-2.result.now)) lines in
    let with_notes = ap (λ (notes : List Note). explained_text path parts (c.in_ok-read.read.plan, notes)) c.deref-2.ensures.value in
    let text = c.in_ok-text.ensures ∙ (with_lines ∙ with_notes) in
    ap (λ (read : Result (PlanOf × List Note) PbxFault). read >>= λ read. Ok (explained_text path parts read)) c.in_ok-read.ensures.read
    ∙ sym (ap (λ (text : List ℕ). Ok text) text)
