-- Numbers above the greatest of 64 bits, which reach as far as the greatest in any value.
use Rattle.std.specs.Prelude.{◌-◌, ◌^◌, min}
use Rattle.std.specs.Option.{option_map}
use Rattle.dp_vars.specs.declared.part.Reach.{Reach}
use Rattle.dp_vars.specs.declared.part.Reach.TheVariants.{Ahead, Back}
use Rattle.dp_vars.specs.declared.part.Selection.{Selection}
use Rattle.dp_vars.specs.declared.part.Selection.TheVariants.{Whole, Part, Nothing}

-- at most the greatest number
abbrev pub at_most : Reach → Reach
at_most (Ahead n) = Ahead (min n (2 ^ 64 - 1))
at_most (Back n) = Back (min n (2 ^ 64 - 1))

-- the same for the requested part
abbrev pub asked_at_most : Selection → Selection
asked_at_most Whole = Whole
asked_at_most (Part offset size) = Part (at_most offset) (option_map at_most size)
asked_at_most Nothing = Nothing
