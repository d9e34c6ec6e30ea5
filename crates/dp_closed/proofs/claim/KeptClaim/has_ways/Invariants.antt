use Rattle.std.proofs.Common.{◌≡◌, ℕ, ◌<◌, Some, slice_get}
use Rattle.std.specs.Global.{Vec}
use Rattle.dp_closed.specs.Reach.{areas_in}
use Rattle.dp_pieces.specs.Shown.{shown_all}
use Rattle.dp_pieces.specs.declared.piece.Piece.{Piece}
use Rattle.dp_reach.specs.Areas.{Includes}
use Rattle.dp_closed.proofs.ClaimLemmas.{digits_in}
use Rattle.dp_closed.proofs.claim.KeptClaim.has_ways.Given as goal

abbrev pub invariant-loop-way : goal.invariant-loop-way
invariant-loop-way l = (k : ℕ) (way : Vec Piece) → k < l.way-index → slice_get l.self.ways.now k ≡ Some way
    → Includes l.self.plan.now (areas_in l.self.plan.now.contexts l.self.reach.now.shapes.items) (digits_in (shown_all way.items))
