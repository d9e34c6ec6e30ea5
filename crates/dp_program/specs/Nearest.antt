-- The names nearest to a given name.
use Rattle.std.specs.Prelude.{ℕ, Bool, List, [], ◌∷◌, length, map, fold, take, suc, nat_eq, nat_le, nat_lt, if◌then◌else◌}
use Rattle.strsim.specs.Edits.{levenshtein_row}
use Rattle.dp_program.specs.declared.nearest.Near.{Near}

-- a name with its distance
pub record NearName : Type 0 where
  pub distance : ℕ
  pub name : List ℕ

abbrev pub near_of : Near → NearName
near_of near = record { distance = near.distance; name = near.name.now }

-- the edit distance: how many insertions, deletions and substitutions turn one name into the other
abbrev pub distance : List ℕ → List ℕ → ℕ
distance from to = levenshtein_row nat_eq from to (length to)

-- whether a name is compared with others: it has at most 80 bytes
abbrev pub is_compared : List ℕ → Bool
is_compared name = nat_le (length name) 80

-- a name inserted into a list ordered by distance, after the names that are as near
abbrev pub with_near : NearName → List NearName → List NearName
with_near near [] = near ∷ []
with_near near (next ∷ later) = if nat_lt near.distance next.distance then near ∷ next ∷ later else next ∷ with_near near later

-- the place at which a name with this distance is inserted
abbrev pub place_of : List Near → ℕ → ℕ
place_of [] distance = 0
place_of (near ∷ later) distance = if nat_lt distance near.distance then 0 else suc (place_of later distance)

-- a name with its distance from another name
abbrev pub near_to : List ℕ → List ℕ → NearName
near_to name other = record { distance = distance name other; name = other }

-- the nearest names so far, at most three, with one more name considered
abbrev pub near_kept : List ℕ → List NearName → List ℕ → List NearName
near_kept name kept other = if is_compared other then take 3 (with_near (near_to name other) kept) else kept

-- the nearest of a list of names, ordered by distance; names that are equally near keep their order
abbrev pub kept_of : List ℕ → List (List ℕ) → List NearName
kept_of name names = fold (near_kept name) [] names

-- the names without their distances
abbrev pub names_of : List NearName → List (List ℕ)
names_of kept = map (λ near. near.name) kept

-- the three nearest of a list of names, or all of them if there are fewer
abbrev pub nearest_of : List ℕ → List (List ℕ) → List (List ℕ)
nearest_of name names = if is_compared name then names_of (kept_of name names) else []
