use Rattle.std.proofs.Common.{◌≡◌}
use Rattle.dp_audit.specs.steps.Hiding.{Grows, all_hidden}
use Rattle.dp_audit.proofs.hidden_entries.Hidings.ask_all.Given as goal

abbrev pub invariant-loop-number : goal.invariant-loop-number
invariant-loop-number l = record {
  noted : Grows l.initial.self l.self (all_hidden l.plan l.number);
  room : l.order.room ≡ l.initial.order.room;
}
