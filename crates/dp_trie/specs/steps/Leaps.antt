-- Leaps over the roots of a tree.
use Rattle.std.specs.Prelude.{◌≡◌, ℕ, zero, suc, ◌<◌, Bool, false, List, slice_get, slice_index, Option, Some}
use Rattle.std.specs.List.{AllByRecursion}
use Rattle.dp_pattern.specs.Name.{is_one_of}
use Rattle.dp_trie.specs.declared.leap.Leap.{Leap}
use Rattle.dp_trie.specs.declared.node.Node.{Node}
use Rattle.dp_trie.specs.declared.node.Step.TheVariants.{Class}

-- the class has no unmarked byte
abbrev pub IsOutside : List Bool → List ℕ → Type 0
IsOutside marks class = (b : ℕ) → slice_get marks b ≡ Some false → is_one_of class b ≡ false

-- at the place is a class at the root that has no unmarked byte
pub record IsPassed (nodes : List Node) (marks : List Bool) (place : ℕ) : Type 0 where
  pub class : List ℕ
  pub here : slice_get nodes place ≡ Some (record { depth = 0; step = Class class })
  pub outside : IsOutside marks class

-- a way from end to end over so many of these classes, from one place to another
abbrev pub Passes : List Node → List ℕ → List Bool → ℕ → ℕ → ℕ → Type 0
Passes nodes ends marks zero from until = from ≡ until
Passes nodes ends marks (suc count) from until =
    IsPassed nodes marks from × Passes nodes ends marks count (slice_index ends from) until

-- the leap passes over such classes only
pub record IsLeap (nodes : List Node) (ends : List ℕ) (leap : Leap) : Type 0 where
  pub count : ℕ
  pub passes : Passes nodes ends leap.marks count leap.from leap.until

-- each leap passes over such classes only
abbrev pub AreLeaps : List Node → List ℕ → List Leap → Type 0
AreLeaps nodes ends leaps = AllByRecursion (IsLeap nodes ends) leaps

-- one of the leaps leads from the place to another for the digit
pub record Leads (leaps : List Leap) (place : ℕ) (digit : Option ℕ) (until : ℕ) : Type 0 where
  pub number : ℕ
  pub leap : Leap
  pub byte : ℕ
  pub there : slice_get leaps number ≡ Some leap
  pub first : digit ≡ Some byte
  pub from : leap.from ≡ place
  pub end : leap.until ≡ until
  pub unmarked : slice_get leap.marks byte ≡ Some false
  pub later : place < until
