use Rattle.std.proofs.Common.{◌≡◌, ap, ◌∙◌}
use Rattle.std.specs.Global.{Vec}
use Rattle.dp_commands.specs.declared.script.ScriptLine.{ScriptLine}
use Rattle.dp_wide_runs.specs.declared.wide_turn.WideTurn.{WideTurn}
use Rattle.dp_wide_runs.proofs.BesideLemmas.{begun_beside}
use Rattle.dp_wide_runs.proofs.run.run_begun.Goals as goal

-- the machine and the lines are those of the run that has begun, and nothing has stopped yet
pub returns-clause-writes : goal.returns-clause-writes
returns-clause-writes g c =
    let lines : c.deref.result.now ≡ c.args.begun.lines.items = c.deref.ensures.value ∙ ap (λ (kept : Vec (ScriptLine WideTurn)). kept.items) c.into_parts-machine.ensures.lines in
    begun_beside g.M.Manner.after g.M.Manner.above g.M.Manner.above_refusal g.M.Manner.last c.args.manner c.new.result c.into_parts-machine.result.0 c.args.begun.machine
    c.deref.result.now c.args.begun.lines.items (g.W.WriteTold.contents c.args.writer.now) (g.W.WriteTold.contents c.run_lines.new.writer) c.run_lines.result
    c.new.ensures c.into_parts-machine.ensures.machine lines c.run_lines.ensures.writes
