-- The walk through a pattern along a name.
use Rattle.std.specs.Prelude.{ℕ, Bool, false, ◌||◌, ◌==◌, List, [], ◌∷◌, Option, Some, None}
use Rattle.std.specs.Str.{byte}
use Rattle.dp_files.specs.declared.wildcard.Star.{Star}

-- whether the first byte of a pattern, which is not a `*`, matches the first byte of a name
abbrev pub first_fits : List ℕ → List ℕ → Bool
first_fits [] name = false
first_fits (p ∷ ps) [] = false
first_fits (p ∷ ps) (b ∷ bs) = p == byte "?" || p == b

-- a `*` that was found: the rest of the pattern after it, and the place in the name where it ends for now
abbrev pub star_now : Star → List ℕ × List ℕ
star_now star = (star.pattern.now, star.name.now)

-- the same, ending one byte later
abbrev pub later : List ℕ → List ℕ → Option (List ℕ × List ℕ)
later pattern [] = None
later pattern (b ∷ bs) = Some (pattern, bs)

-- the last `*`, ending one byte later if possible
abbrev pub next_star : Option (List ℕ × List ℕ) → Option (List ℕ × List ℕ)
next_star None = None
next_star (Some star) = later star.0 star.1
