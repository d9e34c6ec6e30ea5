-- A part of a value, as requested by `:offset` or `:offset:length` after a name.
use Rattle.std.specs.Prelude.{ℕ, zero, suc, ◌+◌, ◌-◌, ◌==◌, List, [], ◌∷◌, Option, Some, None, length, max, min, slice_range, if◌then◌else◌}
use Rattle.std.specs.Option.{option_map}
use Rattle.dp_conf.specs.Cut.{cut_once}
use Rattle.dp_conf.specs.Numbers.{number_of}
use Rattle.dp_vars.specs.declared.part.Reach.{Reach}
use Rattle.dp_vars.specs.declared.part.Reach.TheVariants.{Ahead, Back}
use Rattle.dp_vars.specs.declared.part.Selection.{Selection}
use Rattle.dp_vars.specs.declared.part.Selection.TheVariants.{Whole, Part, Nothing}

-- a number with a minus sign; zero back is zero forward
abbrev pub back : ℕ → Reach
back zero = Ahead 0
back (suc n) = Back (suc n)

-- an optional `-` and one or more digits, however many
abbrev pub reach_of : List ℕ → Option Reach
reach_of [] = None
reach_of (b ∷ bs) = if b == 45 then option_map back (number_of bs) else option_map Ahead (number_of (b ∷ bs))

-- an empty offset is 0
abbrev pub offset_of : List ℕ → Option Reach
offset_of [] = Some (Ahead 0)
offset_of (b ∷ bs) = reach_of (b ∷ bs)

-- an empty length means none
abbrev pub length_of : List ℕ → Option (Option Reach)
length_of [] = Some None
length_of (b ∷ bs) = option_map (λ reach. Some reach) (reach_of (b ∷ bs))

-- the part with an offset and a length, if both are valid
abbrev pub part_from : Option Reach → Option (Option Reach) → Selection
part_from None size = Nothing
part_from (Some offset) None = Nothing
part_from (Some offset) (Some size) = Part offset size

-- an offset alone, or an offset and a length
abbrev pub part_of_cut : List ℕ → Option (List ℕ × List ℕ) → Selection
part_of_cut tail None = part_from (offset_of tail) (Some None)
part_of_cut tail (Some cut) = part_from (offset_of cut.0) (length_of cut.1)

-- the part that is requested by the text after the first `:`, if there is one
abbrev pub asked_of : Option (List ℕ) → Selection
asked_of None = Whole
asked_of (Some tail) = part_of_cut tail (cut_once 58 tail)

-- the start of a part: an offset counts from the front, and a negative one from the end
abbrev pub start_of : Reach → ℕ → ℕ
start_of (Ahead n) size = min n size
start_of (Back n) size = size - n

-- the end of a part: a length counts from the start, and a negative one from the end
abbrev pub end_of : Option Reach → ℕ → ℕ → ℕ
end_of None start size = size
end_of (Some (Ahead n)) start size = min size (start + n)
end_of (Some (Back n)) start size = max start (size - n)

-- the requested part of a value
abbrev pub part : Selection → List ℕ → List ℕ
part Whole value = value
part (Part offset size) value =
    slice_range value (start_of offset (length value)) (end_of size (start_of offset (length value)) (length value))
part Nothing value = []
