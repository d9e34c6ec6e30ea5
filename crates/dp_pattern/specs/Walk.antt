-- A walk over the digits of a text along the classes of a pattern.
use Rattle.std.specs.Prelude.{ℕ, Bool, true, false, List, [], ◌∷◌, map, if◌then◌else◌}
use Rattle.dp_pattern.specs.Dashes.{without_dashes}
use Rattle.dp_pattern.specs.Name.{Meaning, Plain, Pattern, is_one_of}
use Rattle.dp_pattern.specs.declared.tail.Tail.{Tail}
use Rattle.dp_pattern.specs.declared.tail.Tail.TheVariants.{End, Dot, Bang}
use Rattle.dp_pattern.specs.declared.walk.Walk as walk
use Rattle.dp_pattern.specs.declared.walk.Walk.TheVariants as kept

-- a digit is not a member of its class; the digits end before the classes do; or these digits are left
pub data Walked : Type 0 where
  Refused : Walked
  Short : Walked
  After : List ℕ → Walked

abbrev pub walk_after : List (List ℕ) → List ℕ → Walked
walk_after [] digits = After digits
walk_after (class ∷ classes) [] = Short
walk_after (class ∷ classes) (d ∷ digits) = if is_one_of class d then walk_after classes digits else Refused

-- the class of each byte of a plain name
abbrev pub singles : List ℕ → List (List ℕ)
singles plain = map (λ b. b ∷ []) plain

-- a plain name as a pattern with one byte in each class
abbrev pub classes_of : Meaning → List (List ℕ)
classes_of (Plain plain) = singles plain
classes_of (Pattern classes tail) = classes

abbrev pub tail_of : Meaning → Tail
tail_of (Plain plain) = End
tail_of (Pattern classes tail) = tail

-- the walk over a text, in terms of its digits
abbrev pub walk_of : walk.Walk → Walked
walk_of kept.Refused = Refused
walk_of kept.Short = Short
walk_of (kept.After rest) = After (without_dashes rest.now)

-- whether the remaining digits may come after the classes
abbrev pub tail_allows : Tail → List ℕ → Bool
tail_allows End [] = true
tail_allows End (d ∷ digits) = false
tail_allows Dot [] = false
tail_allows Dot (d ∷ digits) = true
tail_allows Bang digits = true

-- whether the walk is one of a match, and whether some ending makes it one
abbrev pub is_match : Tail → Walked → Bool
is_match tail Refused = false
is_match tail Short = false
is_match tail (After digits) = tail_allows tail digits

abbrev pub goes_on : Tail → Walked → Bool
goes_on End Refused = false
goes_on End Short = true
goes_on End (After digits) = false
goes_on Dot Refused = false
goes_on Dot Short = true
goes_on Dot (After digits) = true
goes_on Bang walk = false
