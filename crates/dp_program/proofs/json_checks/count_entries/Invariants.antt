use Rattle.std.proofs.Common.{◌≡◌, ◌+◌, ◌*◌, ◌≤◌, drop}
use Rattle.dp_commands.specs.Report.{entries_in}
use Rattle.dp_program.proofs.json_checks.count_entries.Given as goal

abbrev pub invariant-loop-context : goal.invariant-loop-context
invariant-loop-context l = record {
  sum : l.count + entries_in (drop l.context-index l.contexts) ≡ entries_in l.contexts;
  bound : l.count ≤ l.context-index * 18446744073709551615;
}
