-- Ranges in the steps of private functions. No public clause depends on them.
use Rattle.std.specs.Prelude.{ℕ, ◌==◌, List, [], ◌∷◌, Option, Some, None, if◌then◌else◌}

-- the byte after a hyphen at the start of the text, and the rest
abbrev pub upper : List ℕ → Option (ℕ × List ℕ)
upper [] = None
upper (next ∷ []) = None
upper (next ∷ high ∷ rest) = if next == 45 then Some (high, rest) else None
