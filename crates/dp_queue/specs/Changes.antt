-- Lists with one element left out, and counts with a greatest number.
use Rattle.std.specs.Prelude.{ℕ, ◌+◌, ◌-◌, ◌^◌, min, Bool, List, [], ◌∷◌, if◌then◌else◌}

-- the list without its first element that passes the test
abbrev pub without : {X : Type 0} → (X → Bool) → List X → List X
without p [] = []
without p (x ∷ xs) = if p x then xs else x ∷ without p xs

-- one more, up to the greatest number of 64 bits
abbrev pub one_more : ℕ → ℕ
one_more n = min (n + 1) (2 ^ 64 - 1)
