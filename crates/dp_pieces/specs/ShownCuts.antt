-- Cuts of pieces as values of the definition.
use Rattle.dp_pieces.specs.Cuts as spec
use Rattle.dp_pieces.specs.Shown.{shown_all}
use Rattle.dp_pieces.specs.declared.cuts.Cutting.{Cutting}
use Rattle.dp_pieces.specs.declared.cuts.Cutting.TheVariants.{Nowhere, Unsure, At}

-- the pieces before and after the byte
abbrev pub shown_cutting : Cutting → spec.CuttingOf
shown_cutting Nowhere = spec.Nowhere
shown_cutting Unsure = spec.Unsure
shown_cutting (At front rest) = spec.At (shown_all front.now) (shown_all rest.now)
