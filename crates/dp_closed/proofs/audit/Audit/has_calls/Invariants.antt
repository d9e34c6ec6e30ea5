use Rattle.std.proofs.Common.{drop}
use Rattle.dp_closed.proofs.AuditLemmas.{AreCallsIn}
use Rattle.dp_closed.proofs.audit.Audit.has_calls.Given as goal

abbrev pub invariant-loop-name : goal.invariant-loop-name
invariant-loop-name l = AreCallsIn l.self (drop l.name-index l.self.outside.now.contexts.items) → AreCallsIn l.self l.self.outside.now.contexts.items
