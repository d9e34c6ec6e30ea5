use Rattle.std.proofs.Common.{◌≡◌, replicate, Ok}
use Rattle.dp_commands.specs.steps.Runners.{Takes}
use Rattle.dp_commands.proofs.run.Runner.take_line.Given as goal

abbrev pub invariant-loop-turn : goal.invariant-loop-turn
invariant-loop-turn g l = record {
  streams : Takes g.T.Taker.step (replicate l._turn l.line.turn) (g.W.WriteTold.contents l.fn.writer) l.fn.self (g.W.WriteTold.contents l.writer) l.self (Ok l.refused);
  told : g.W.WriteTold.has_failed l.writer ≡ g.W.WriteTold.has_failed l.fn.writer;
}
