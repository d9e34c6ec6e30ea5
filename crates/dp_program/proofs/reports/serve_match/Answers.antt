use Rattle.std.proofs.lemmas.Result.{err_from_is_err_and}
use Rattle.dp_program.specs.Requests.{lookup_of, options_of}
use Rattle.dp_program.proofs.ServesLemmas.{look_up_read, look_up_refused}
use Rattle.dp_program.proofs.reports.serve_match.Goals as goal

pub returns-in_err-plan-clause-serves : goal.returns-in_err-plan-clause-serves
returns-in_err-plan-clause-serves g c =
    let p = err_from_is_err_and c.from_residual.result c.from_residual.ensures.1 in
    rw (p.1, p.2) (look_up_refused (lookup_of c.args.lookup.now) (g.F.ReadFiles.source_at c.args.files.now c.args.lookup.now.file.now) c.args.manner.all (options_of c.args.manner.options) (g.W.WriteTold.contents c.args.output.now) _
    c.in_err-plan.ensures.path c.in_err-plan.ensures.read)

-- the look-up is in the text that was read
pub returns-clause-serves : goal.returns-clause-serves
returns-clause-serves g c =
    look_up_read (lookup_of c.args.lookup.now) (g.F.ReadFiles.source_at c.args.files.now c.args.lookup.now.file.now) c.args.manner.all (options_of c.args.manner.options) (g.W.WriteTold.contents c.args.output.now)
    (g.W.WriteTold.contents c.look_up_told.new.output) c.in_ok-plan.plan.items c.deref-2.result.now c.deref.result.now c.deref-2.ensures.value c.deref.ensures.value
    c.look_up_told.result c.with_place.result c.in_ok-plan.ensures.read c.with_place.ensures.same c.look_up_told.ensures.reports c.with_place.ensures.stands c.look_up_told.ensures.tells
