-- A step of the code: the extensions of the lines so far, each with its last priority and its number.
use Rattle.std.specs.Prelude.{◌≡◌, ℕ, Bool, true, List, Option, slice_get}
use Rattle.std.specs.Option.{option_and_then, option_map}
use Rattle.std.specs.List.{list_any, position_or_len}
use Rattle.std.specs.Map.{keys_of}
use Rattle.dp_plan.specs.Extensions.{same_extension}
use Rattle.dp_plan.specs.declared.extension.Extension.{Extension}

-- an element passes the test, and the first one that does is at the place
pub record IsFirstAt {X : Type 0} (test : X → Bool) (xs : List X) (place : ℕ) : Type 0 where
  pub there : list_any test xs ≡ true
  pub at : place ≡ position_or_len test xs

-- each extension with its last priority, in the order of first appearance
abbrev pub Table : Type 0
Table = List (Extension × ℕ)

-- the number of an extension, which is the number of all extensions if it is not among them
abbrev pub number_in : Table → Extension → ℕ
number_in table extension = position_or_len (same_extension extension) (keys_of table)

-- the extension is among them and has the number
abbrev pub HasNumber : Table → Extension → ℕ → Type 0
HasNumber table extension = IsFirstAt (same_extension extension) (keys_of table)

-- the last priority of the extension with the number, if there is one
abbrev pub priority_at : Table → Option ℕ → Option ℕ
priority_at table number = option_and_then (λ n. option_map (λ entry. entry.1) (slice_get table n)) number
