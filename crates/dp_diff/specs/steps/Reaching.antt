-- The contexts that a call reaches, kept as a table of their numbers.
use Rattle.std.specs.Prelude.{nat_eq}
use Rattle.std.specs.List.{list_any}
use Rattle.dp_diff.specs.Reaches.{ReachOf}
use Rattle.dp_diff.specs.declared.reaches.ReachTable.{ReachTable}

-- what the table says
abbrev pub reach_of_table : ReachTable → ReachOf
reach_of_table table = record { plan = table.plan.now; has_entry = λ number. list_any (nat_eq number) table.numbers.keys }
