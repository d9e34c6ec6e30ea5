use Rattle.std.proofs.Common.{◌≡◌, ◌+◌, drop}
use Rattle.dp_conf.specs.Lines.{comment_start}
use Rattle.dp_conf.proofs.lines.comment_start.Given as goal

abbrev pub invariant-loop-at : goal.invariant-loop-at
invariant-loop-at l = comment_start 10 l.part ≡ l.at + comment_start l.previous (drop l.at l.part)
