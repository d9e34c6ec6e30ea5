use Rattle.std.proofs.lemmas.Result.{err_from_is_err_and}
use Rattle.dp_program.specs.Texts.{paths_of, sources_of}
use Rattle.dp_program.proofs.ReadsLemmas.{texts_read, texts_refused_plan, texts_refused_queues, texts_refused_second, texts_refused_script}
use Rattle.dp_program.proofs.texts.read_texts.Goals as goal

pub returns-in_err-plan-clause-read : goal.returns-in_err-plan-clause-read
returns-in_err-plan-clause-read g c =
    let p = err_from_is_err_and c.from_residual.result c.from_residual.ensures.1 in
    rw (p.1, p.2) (texts_refused_plan (paths_of c.args.run.now) (sources_of (g.F.ReadFiles.source_at c.args.files.now) (paths_of c.args.run.now)) _ _ c.in_err-plan.ensures.path c.in_err-plan.ensures.read)

pub returns-in_err-queues-clause-read : goal.returns-in_err-queues-clause-read
returns-in_err-queues-clause-read g c =
    let p = err_from_is_err_and c.from_residual-in_err-queues.result c.from_residual-in_err-queues.ensures.1 in
    rw (p.1, p.2) (texts_refused_queues (paths_of c.args.run.now) (sources_of (g.F.ReadFiles.source_at c.args.files.now) (paths_of c.args.run.now)) _ _ _ c.in_err-queues.ensures.path
    c.in_ok-plan.ensures.read c.in_err-queues.ensures.read)

pub returns-in_err-second_plan-clause-read : goal.returns-in_err-second_plan-clause-read
returns-in_err-second_plan-clause-read g c =
    let p = err_from_is_err_and c.from_residual-in_err-second_plan.result c.from_residual-in_err-second_plan.ensures.1 in
    rw (p.1, p.2) (texts_refused_second (paths_of c.args.run.now) (sources_of (g.F.ReadFiles.source_at c.args.files.now) (paths_of c.args.run.now)) _ _ _ _ c.in_err-second_plan.ensures.path
    c.in_ok-plan.ensures.read c.in_ok-queues.ensures.read c.in_err-second_plan.ensures.read)

pub returns-in_err-script-clause-read : goal.returns-in_err-script-clause-read
returns-in_err-script-clause-read g c =
    let p = err_from_is_err_and c.from_residual-in_err-script.result c.from_residual-in_err-script.ensures.1 in
    rw (p.1, p.2) (texts_refused_script (paths_of c.args.run.now) (sources_of (g.F.ReadFiles.source_at c.args.files.now) (paths_of c.args.run.now)) _ _ _ _ _ c.in_err-script.ensures.path
    c.in_ok-plan.ensures.read c.in_ok-queues.ensures.read c.in_ok-second_plan.ensures.read c.in_err-script.ensures.read)

pub returns-clause-read : goal.returns-clause-read
returns-clause-read g c =
    texts_read (sources_of (g.F.ReadFiles.source_at c.args.files.now) (paths_of c.args.run.now)) _ _ _ _
    c.in_ok-plan.ensures.read c.in_ok-queues.ensures.read c.in_ok-second_plan.ensures.read c.in_ok-script.ensures.read
