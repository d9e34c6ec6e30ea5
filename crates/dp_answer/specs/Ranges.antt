-- Sets of bytes, written as a text of ranges.
use Rattle.std.specs.Prelude.{ℕ, ◌==◌, ◌&&◌, nat_le, List, [], ◌∷◌, if◌then◌else◌}
use Rattle.dp_pieces.specs.Bytes.{Bytes, either, none}

-- one byte, and each byte from one to another
abbrev pub only : ℕ → Bytes
only byte b = b == byte

abbrev pub between : ℕ → ℕ → Bytes
between low high b = nat_le low b && nat_le b high

-- the set that a text of ranges names: `a-b` means each byte from a to b, and any other byte means itself
abbrev pub ranges : List ℕ → Bytes
ranges [] = none
ranges (low ∷ []) = only low
ranges (low ∷ next ∷ []) = either (only low) (only next)
ranges (low ∷ next ∷ high ∷ rest) =
    if next == 45 then either (between low high) (ranges rest) else either (only low) (ranges (next ∷ high ∷ rest))
