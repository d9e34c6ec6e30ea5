use Rattle.std.proofs.Common.{◌≡◌, Ok, take}
use Rattle.dp_commands.specs.Script.{turns_of}
use Rattle.dp_commands.specs.steps.Runners.{Takes}
use Rattle.dp_commands.proofs.run.Runner.take_lines.Given as goal

abbrev pub invariant-loop-line : goal.invariant-loop-line
invariant-loop-line g l = record {
  streams : Takes g.T.Taker.step (turns_of (take l.line-index l.lines)) (g.W.WriteTold.contents l.fn.writer) l.fn.self (g.W.WriteTold.contents l.writer) l.self (Ok l.refused);
  told : g.W.WriteTold.has_failed l.writer ≡ g.W.WriteTold.has_failed l.fn.writer;
}
