use Rattle.std.proofs.Common.{sym, ◌∙◌}
use Rattle.dp_vars.specs.Sights.{sight_of}
use Rattle.dp_wide.proofs.KindsLemmas.{plain_asks}
use Rattle.dp_wide.proofs.wide_table.WideAppsKnownTable.unknown_need.Goals as goal

pub returns-then-is_plain : goal.returns-then-is_plain
returns-then-is_plain c c' =
    c'.new.ensures.items
    ∙ sym (plain_asks (sight_of c.C.Counts.count c'.args.scope.now) c'.args.name.now c'.args.arguments.now (sym c'.is_plain.ensures ∙ c'.if-is_plain.true))
