-- The row of `Goto` stays inside if what it owes is met.
use Rattle.std.proofs.Common.{List, [], ◌∷◌, map}
use Rattle.dp_flow.specs.Jumps.{goto_row}
use Rattle.dp_reach.specs.Areas.{Area, IncludesAll, targets}
use Rattle.dp_reach.specs.Bounds.{IsBounded, Leads, MeetsAll, goto_duties}
use Rattle.dp_reach.specs.Holding.{Claim}
use Rattle.dp_reach.proofs.TargetLemmas.{covers-included, in-targets}

-- duties to lead to areas
pub includes-all : (claim : Claim) (areas : List Area) → MeetsAll claim (map Leads areas) → IncludesAll claim.plan claim.reach areas
includes-all claim [] met = tt
includes-all claim (area ∷ areas) met = (met.0, includes-all claim areas met.1)

-- the row of `Goto`
pub goto-bounded : IsBounded goto_duties goto_row
goto-bounded claim area pieces arguments cell good inside own fits met = record {
  cell = good;
  next = λ place found. covers-included claim.plan claim.reach (targets area pieces) place (includes-all claim (targets area pieces) met)
      (in-targets claim.plan area cell.place place pieces arguments inside fits found);
}
