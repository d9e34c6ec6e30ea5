use Rattle.std.proofs.Common.{◌≡◌, false, replicate, vec_capacity}
use Rattle.dp_lookup.proofs.order.no_marks.Given as goal

abbrev pub invariant-loop : goal.invariant-loop
invariant-loop l = record {
  marks : l.marks.items ≡ replicate l.counter false;
  room : vec_capacity l.marks ≡ l.count;
}
