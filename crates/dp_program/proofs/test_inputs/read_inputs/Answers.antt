use Rattle.std.proofs.Common.{ℕ, List, ap, ◌∙◌}
use Rattle.dp_program.specs.Dialplans.{read_now}
use Rattle.dp_program.specs.QueueTexts.{queues_now}
use Rattle.dp_program.specs.TestFiles.{inputs_by, reloads_now}
use Rattle.dp_program.proofs.test_inputs.read_inputs.Goals as goal

pub returns : goal.returns
returns g c = record {
  plan = read_now c.in_ok-plan.plan;
  queues = queues_now c.in_ok-queues.queues;
  reloads = reloads_now c.in_ok-reloads.reloads;
  plan_read = c.in_ok-plan.ensures;
  queues_read = c.in_ok-queues.ensures;
  reloads_read = c.in_ok-reloads.ensures;
  joined =
      c.inputs_by.ensures
      ∙ ap (λ (lines : List ℕ). inputs_by lines (read_now c.in_ok-plan.plan) (queues_now c.in_ok-queues.queues) (reloads_now c.in_ok-reloads.reloads)) c.in_ok-lines.ensures;
}
