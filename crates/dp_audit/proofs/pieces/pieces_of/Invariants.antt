use Rattle.std.proofs.Common.{[], take}
use Rattle.std.specs.List.{list_any}
use Rattle.dp_audit.specs.Pieces.{holds}
use Rattle.dp_audit.specs.steps.Firsts.{Adds}
use Rattle.dp_audit.proofs.pieces.pieces_of.Given as goal

abbrev pub invariant-loop-context : goal.invariant-loop-context
invariant-loop-context g l = Adds (λ text. list_any (λ context. list_any (holds g.N.AppNames.known text) context.entries) (take l.context-index l.plan.contexts)) [] l.pieces.keys
