use Rattle.std.proofs.Common.{[], ◌-◌, ◌≤◌, take}
use Rattle.dp_audit.specs.steps.Hiding.{Adds, Grows, numbers_asked, some_at}
use Rattle.dp_audit.proofs.hidden_entries.Hidings.ask_order.Given as goal

abbrev pub invariant-loop-place : goal.invariant-loop-place
invariant-loop-place l = record {
  after : 1 ≤ l.place;
  places : Adds (some_at l.plan (take (l.place - 1) l.order)) [] l.places.keys;
  noted : Grows l.initial.self l.self (numbers_asked l.plan l.from [] (take l.place l.order));
}
