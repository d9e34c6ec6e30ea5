-- When a longer text could match a name.
use Rattle.std.specs.Prelude.{◌≢◌, ℕ, ◌<◌, List, ◌++◌, length, EachIndex, slice_index}
use Rattle.std.specs.Str.{byte}
use Rattle.dp_pattern.specs.Name.{Meaning, Plain, Pattern}
use Rattle.dp_pattern.specs.Matches.{Matches}
use Rattle.dp_pattern.specs.declared.tail.Tail.TheVariants.{End, Dot, Bang}

-- the name does not end with `!`
abbrev pub HasNoBang : Meaning → Type 0
HasNoBang (Plain plain) = Unit {0}
HasNoBang (Pattern classes End) = Unit {0}
HasNoBang (Pattern classes Dot) = Unit {0}
HasNoBang (Pattern classes Bang) = ⊥

-- some ending of one or more bytes other than `-` makes the text match, and the name has no tail `!`
pub record GoesOn (name : Meaning) (text : List ℕ) : Type 0 where
  pub ending : List ℕ
  pub some : 0 < length ending
  pub bytes : EachIndex ending (λ k. slice_index ending k < 256)
  pub dashless : EachIndex ending (λ k. slice_index ending k ≢ byte "-")
  pub matching : Matches name (text ++ ending)
  pub no_bang : HasNoBang name
