-- The names that `Read` was given: their input comes from outside, and nothing is known of such a name until something sets it.
use Rattle.std.specs.Prelude.{ℕ, Bool, false, ◌==◌, List, ◌∷◌, ◌++◌, Option, Some, None, codes, if◌then◌else◌}
use Rattle.std.specs.List.{slice_split}
use Rattle.std.specs.Option.{option_map_or}
use Rattle.dp_vars.specs.Sights.{Sight}
use Rattle.dp_wide.specs.Names.{is_text_of}

-- the variable in which a channel keeps these names, separated by commas; no plain name has parentheses
abbrev pub read_names : List ℕ
read_names = codes "READ()"

-- whether a name is one of those between the commas of a text
abbrev pub is_listed : List ℕ → List ℕ → Bool
is_listed names name = is_text_of (slice_split (λ byte. byte == 44) names) name

-- the text with one more name, unless it already has this one
abbrev pub with_listed : Option (List ℕ) → List ℕ → List ℕ
with_listed None name = name
with_listed (Some names) name = if is_listed names name then names else names ++ 44 ∷ name

-- the text of these names in a sight, if there is one
abbrev pub names_seen : Sight → Option (List ℕ)
names_seen sight = if sight.is_set read_names then Some (sight.variable read_names) else None

-- whether `Read` was given a name
abbrev pub was_read : Sight → List ℕ → Bool
was_read sight name = option_map_or (λ names. is_listed names name) (names_seen sight) false
