-- A step of the code: the names with priority 1 in some contexts, kept by their spellings.
use Rattle.std.specs.Prelude.{◌≡◌, ℕ, Bool, ◌||◌, List, nat_eq}
use Rattle.std.specs.Cmp.Lexicographic.{pointwise}
use Rattle.std.specs.List.{list_any}

-- a text is among the new ones if it is among the old ones or passes the test
abbrev pub Adds : (List ℕ → Bool) → List (List ℕ) → List (List ℕ) → Type 0
Adds test old new = (text : List ℕ) → list_any (pointwise nat_eq text) new ≡ (list_any (pointwise nat_eq text) old || test text)
