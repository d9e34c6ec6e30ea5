use Rattle.std.proofs.Common.{List, map, ap, subst, ◌∙◌}
use Rattle.dp_program.specs.TestFiles.{AreReloads, NamedOf, named_now, no_reloads, reloads_now, reloads_of}
use Rattle.dp_program.specs.declared.test_inputs.PlanReading.{PlanReading}
use Rattle.dp_program.proofs.test_inputs.read_all_reloads.Goals as goal

-- the dialplans are read as the head says, one after another
pub returns : goal.returns
returns g c =
    subst (λ (reading : PlanReading). AreReloads (g.F.ReadFiles.source_at c.args.files.now) reading c.args.path.now (reloads_of c.args.file.now) no_reloads (reloads_now c.in_ok-reloads.reloads)) c.in_ok-reading.ensures
    (subst (λ (names : List NamedOf). AreReloads (g.F.ReadFiles.source_at c.args.files.now) c.in_ok-reading.reading c.args.path.now names no_reloads (reloads_now c.in_ok-reloads.reloads))
    (ap (map named_now) c.deref.ensures.value ∙ c.in_ok-named.ensures) c.in_ok-reloads.ensures)
