use Rattle.std.proofs.Common.{◌≡◌, ℕ, Bool, true, false, List, [], Option, Result, Ok, Err, if◌then◌else◌, ap, sym, ◌∙◌, subst}
use Rattle.std.proofs.lemmas.Result.{err_from_is_err_and}
use Rattle.std.specs.Option.{option_map}
use Rattle.dp_conf.specs.Answers.{◌>>=◌}
use Rattle.dp_commands.specs.Run.{Run, RunContentsOf, Writes, contents_of, run_of_texts}
use Rattle.dp_commands.specs.declared.fault.PbxFault.{PbxFault}
use Rattle.dp_commands.proofs.TextsLemmas.{Writes_done, Writes_refused}
use Rattle.dp_unmodelled.specs.Report.{meets_nothing, met_lines, reported_lines, unmodelled_of}
use Rattle.dp_unmodelled.proofs.report.run_reported.Goals as goal

-- the texts have a fault, or memory ran out while they were read
pub returns-in_err-contents-clause-writes : goal.returns-in_err-contents-clause-writes
returns-in_err-contents-clause-writes g c =
    let p = err_from_is_err_and c.from_residual.result c.from_residual.ensures.1 in
    rw (p.1, p.2) (Writes_refused (g.W.WriteTold.contents c.args.writer.now) (run_of_texts c.args.texts) c.in_err-contents.field-0.0 c.in_err-contents.ensures.run)

-- the run did not end
pub returns-in_err-status-clause-writes : goal.returns-in_err-status-clause-writes
returns-in_err-status-clause-writes g c =
    let p = err_from_is_err_and c.from_residual-in_err-status.result c.from_residual-in_err-status.ensures.1 in
    rw (p.1, p.2) (subst (λ (given : Result Run PbxFault). Writes (g.W.WriteTold.contents c.args.writer.now) (g.W.WriteTold.contents c.run_contents.new.writer) given (Err c.in_err-status.field-0.0))
    (sym c.in_ok-contents.ensures.run) c.in_err-status.ensures.writes)

-- memory ran out after the run
pub returns-in_err-lines-clause-writes : goal.returns-in_err-lines-clause-writes
returns-in_err-lines-clause-writes g c =
    let p = err_from_is_err_and c.from_residual-in_err-lines.result c.from_residual-in_err-lines.ensures.1 in
    rw (p.1, p.2) (Writes_done (g.W.WriteTold.contents c.args.writer.now) (g.W.WriteTold.contents c.run_contents.new.writer) (run_of_texts c.args.texts) c.in_ok-status.status
    (subst (λ (given : Result Run PbxFault). Writes (g.W.WriteTold.contents c.args.writer.now) (g.W.WriteTold.contents c.run_contents.new.writer) given (Ok c.in_ok-status.status))
    (sym c.in_ok-contents.ensures.run) c.in_ok-status.ensures.writes))

-- the lines of a run, given what its texts say or their fault
abbrev lines_told : Option (List ℕ) → Result RunContentsOf PbxFault → Result (List ℕ) PbxFault
lines_told second_plan given = given >>= λ contents. Ok (reported_lines second_plan contents)

-- a quiet run has none
quiet_lines : (second_plan : Option (List ℕ)) (contents : RunContentsOf) (given : Result RunContentsOf PbxFault) (quiet : Bool) (lines : List ℕ)
    → given ≡ Ok contents → quiet ≡ meets_nothing second_plan contents.plan
    → Ok lines ≡ (if◌then◌else◌ {A = Result (List ℕ) PbxFault} quiet (Ok []) (lines_told second_plan given)) → lines_told second_plan given ≡ Ok lines
quiet_lines second_plan contents given true lines told is lined =
    ap (lines_told second_plan) told
    ∙ (ap (λ (m : Bool). let made : Result (List ℕ) PbxFault = Ok (if◌then◌else◌ {A = List ℕ} m [] (met_lines contents)) in made) (sym is) ∙ sym lined)
quiet_lines second_plan contents given false lines told is lined = sym lined

pub returns-clause-lines : goal.returns-clause-lines
unfolding unmodelled_of
returns-clause-lines g c =
    let contents : RunContentsOf = record { plan = c.in_ok-contents.contents.files.plan; queues = c.in_ok-contents.contents.files.queues; lines = c.in_ok-contents.contents.lines.items } in
    quiet_lines (option_map (λ text. text.now) c.args.texts.second_plan) contents
    (contents_of c.args.texts.plan.now (option_map (λ text. text.now) c.args.texts.queues) (option_map (λ text. text.now) c.args.texts.second_plan) c.args.texts.script.now)
    c.meets_nothing-is_quiet.result c.in_ok-lines.lines.items c.in_ok-contents.ensures.told c.meets_nothing-is_quiet.ensures c.in_ok-lines.ensures
