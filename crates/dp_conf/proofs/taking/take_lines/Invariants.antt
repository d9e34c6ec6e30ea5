use Rattle.std.proofs.Common.{◌≡◌, ◌+◌, ◌≤◌, fold, length}
use Rattle.dp_conf.specs.Lines.{lines_of, items_before_fault}
use Rattle.dp_conf.specs.Taking.{all_taken}
use Rattle.dp_conf.proofs.LinesLemmas.{parts_left, left_len}
use Rattle.dp_conf.proofs.TakingLemmas.{rest_taken, front_taken}
use Rattle.dp_conf.proofs.taking.take_lines.Given as goal

abbrev pub invariant-loop-rest : goal.invariant-loop-rest
invariant-loop-rest g l = record {
  counted : l.line + left_len l.rest ≤ length l.fn.text + 1;
  whole : rest_taken g.T.TakeLine.after_line l.in_section l.line l.taker (parts_left l.rest) ≡ all_taken g.T.TakeLine.after_line l.fn.taker (lines_of l.fn.text);
  front : front_taken g.T.TakeLine.after_line l.in_section l.line l.taker (parts_left l.rest) ≡ fold g.T.TakeLine.after_line l.fn.taker (items_before_fault l.fn.text);
}

abbrev pub decreases-loop-rest : goal.decreases-loop-rest
decreases-loop-rest g l = left_len l.rest
