-- Steps of the code: bytes that mean themselves wherever they stand in the name of an extension.
use Rattle.std.specs.Prelude.{ℕ, Bool, not, ◌&&◌, ◌==◌, nat_lt}

-- such a byte: one above `/`, and neither `\` (92), `_` (95) nor 127
abbrev pub is_simple : ℕ → Bool
is_simple b = nat_lt 47 b && (not (b == 92) && (not (b == 95) && not (b == 127)))
