use Rattle.std.proofs.Common.{drop}
use Rattle.std.specs.List.{AllByRecursion}
use Rattle.dp_pieces.specs.Tables.{names_in}
use Rattle.dp_reach.specs.Audits.{IsGlobalWithin}
use Rattle.dp_reach.specs.Bounds.{obligations}
use Rattle.dp_closed.proofs.audit.Audit.has_globals.Given as goal

abbrev pub invariant-loop-global : goal.invariant-loop-global
invariant-loop-global g l = AllByRecursion (IsGlobalWithin (obligations g.T.Functions.Functions.table g.T.DutyTable.duties) (names_in l.self.wide.names.now)) (drop l.global-index l.self.wide.plan.now.globals)
    → AllByRecursion (IsGlobalWithin (obligations g.T.Functions.Functions.table g.T.DutyTable.duties) (names_in l.self.wide.names.now)) l.self.wide.plan.now.globals
