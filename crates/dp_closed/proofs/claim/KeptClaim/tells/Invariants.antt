use Rattle.std.proofs.Common.{drop, map}
use Rattle.std.specs.List.{AllByRecursion}
use Rattle.dp_pieces.specs.Bytes.{Within}
use Rattle.dp_pieces.specs.Tables.{names_in}
use Rattle.dp_closed.proofs.claim.KeptClaim.tells.Given as goal

abbrev pub invariant-loop-text : goal.invariant-loop-text
invariant-loop-text l = AllByRecursion (Within ((names_in l.self.names.now).bytes l.name)) (map (λ text. text.now) (drop l.text-index l.texts))
    → AllByRecursion (Within ((names_in l.self.names.now).bytes l.name)) (map (λ text. text.now) l.texts)
