-- The names of applications that a reader keeps, so that lines that write one alike share it.
use Rattle.std.specs.Prelude.{ℕ, Bool, nat_lt, List, [], ◌∷◌, ◌++◌, length, if◌then◌else◌}
use Rattle.std.specs.List.{list_any}
use Rattle.dp_conf.specs.Words.{same_text}

-- one of the names is written this way
abbrev pub is_known : List (List ℕ) → List ℕ → Bool
is_known names name = list_any (same_text name) names

-- the names with one more, which is kept if it is new and there are fewer than 32
abbrev pub with_known_name : List (List ℕ) → List ℕ → List (List ℕ)
with_known_name names name = if is_known names name then names else if nat_lt (length names) 32 then names ++ name ∷ [] else names
