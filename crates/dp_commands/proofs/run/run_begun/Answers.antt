use Rattle.std.proofs.Common.{◌≡◌, List, ap, ◌∙◌, subst}
use Rattle.std.specs.Global.{Vec}
use Rattle.dp_machine.specs.World.{World}
use Rattle.dp_commands.specs.Script.{turns_of}
use Rattle.dp_commands.specs.Turns.{WritesTurnsBy}
use Rattle.dp_commands.specs.declared.script.ScriptLine.{ScriptLine}
use Rattle.dp_commands.specs.declared.script.Turn.{Turn}
use Rattle.dp_commands.proofs.run.run_begun.Goals as goal

-- the machine and the lines are those of the run that has begun
pub returns-clause-writes : goal.returns-clause-writes
returns-clause-writes g c =
    let W : World → List (ScriptLine Turn) → Type 0 = λ world lines. WritesTurnsBy g.T.Taker.step (λ at. g.T.Taker.last at.0) (λ at. g.T.Taker.status at.0) (c.args.taker, world) (turns_of lines)
    (g.W.WriteTold.contents c.args.writer.now) (g.W.WriteTold.contents c.run_lines.new.writer) c.run_lines.result in
    let lines : c.deref.result.now ≡ c.args.begun.lines.items = c.deref.ensures.value ∙ ap (λ (kept : Vec (ScriptLine Turn)). kept.items) c.into_parts-machine.ensures.lines in
    subst (λ (world : World). W world c.args.begun.lines.items) c.into_parts-machine.ensures.machine
    (subst (W c.into_parts-machine.result.0) lines c.run_lines.ensures.writes)
