use Rattle.std.proofs.Common.{◌≡◌, ◌++◌, length}
use Rattle.std.specs.List.{flat_map}
use Rattle.std.specs.Vec.Iter.{into_iter_items, into_iter_len}
use Rattle.dp_wide_runs.specs.Lines.{wide_lines_of}
use Rattle.dp_wide_runs.proofs.wide_lines.push_all_wide.Given as goal

abbrev pub invariant-loop-line : goal.invariant-loop-line
invariant-loop-line l = record {
  left : l.lines.items ++ flat_map wide_lines_of (into_iter_items l.line-iterator) ≡ l.fn.lines.items ++ flat_map wide_lines_of l.fn.plain.items;
  many : into_iter_len l.line-iterator ≡ length (into_iter_items l.line-iterator);
}
