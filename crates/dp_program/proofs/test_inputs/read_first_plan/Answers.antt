use Rattle.std.proofs.Common.{subst}
use Rattle.dp_program.specs.Dialplans.{read_now}
use Rattle.dp_program.specs.TestFiles.{IsPlanRead, NamedOf, named_in}
use Rattle.dp_program.specs.declared.test_inputs.PlanReading.{PlanReading}
use Rattle.dp_program.proofs.test_inputs.read_first_plan.Goals as goal

-- the dialplan is read as the head says
pub returns : goal.returns
returns g c =
    subst (λ (reading : PlanReading). IsPlanRead (g.F.ReadFiles.source_at c.args.files.now) reading c.args.path.now (named_in c.args.file.now.dialplan) (read_now c.in_ok-read.read)) c.in_ok-reading.ensures
    (subst (λ (named : NamedOf). IsPlanRead (g.F.ReadFiles.source_at c.args.files.now) c.in_ok-reading.reading c.args.path.now named (read_now c.in_ok-read.read)) c.named_in-named.ensures
    c.in_ok-read.ensures)
