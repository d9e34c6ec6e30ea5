-- When a dialled text matches a name.
use Rattle.std.specs.Prelude.{◌≡◌, ℕ, ◌<◌, List, [], ◌++◌, length, Contains}
use Rattle.std.specs.List.{AllZip}
use Rattle.dp_pattern.specs.Dashes.{without_dashes}
use Rattle.dp_pattern.specs.Name.{Meaning, Plain, Pattern}
use Rattle.dp_pattern.specs.declared.tail.Tail.{Tail}
use Rattle.dp_pattern.specs.declared.tail.Tail.TheVariants.{End, Dot, Bang}

-- what may come after the classes: nothing, one or more characters, or any number of them
abbrev pub FitsTail : Tail → List ℕ → Type 0
FitsTail End rest = rest ≡ []
FitsTail Dot rest = 0 < length rest
FitsTail Bang rest = Unit {0}

-- one member of each class in turn, and then what the tail allows
pub record MatchesPattern (classes : List (List ℕ)) (tail : Tail) (digits : List ℕ) : Type 0 where
  pub begin : List ℕ
  pub rest : List ℕ
  pub whole : digits ≡ begin ++ rest
  pub members : AllZip Contains classes begin
  pub ending : FitsTail tail rest

-- the text, without its dashes, matches the name
unfoldable pub Matches : Meaning → List ℕ → Type 0
Matches (Plain plain) text = without_dashes text ≡ plain
Matches (Pattern classes tail) text = MatchesPattern classes tail (without_dashes text)
