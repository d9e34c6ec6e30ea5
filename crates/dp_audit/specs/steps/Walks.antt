-- A step of the code: walks from one entry to the next until they end or meet an entry that was visited, and what is known after them.
use Rattle.std.specs.Prelude.{◌≡◌, ℕ, ◌<◌, ◌≤◌, ◌⊎◌, Bool, true, false, List, length, slice_get, Option, Some, None}
use Rattle.dp_audit.specs.Loops.{IsFirstOfLoop, after}

-- the path has the first steps from its start, and the next step leads to this end
pub record IsWalk {X : Type 0} (step : X → Option X) (start : X) (path : List X) (end : Option X) : Type 0 where
  pub each : (place : ℕ) → place < length path → slice_get path place ≡ after step place start
  pub last : after step (length path) start ≡ end

-- the element is in the path, at the place or after it
pub record IsFrom {X : Type 0} (path : List X) (place : ℕ) (x : X) : Type 0 where
  pub number : ℕ
  pub late : place ≤ number
  pub there : slice_get path number ≡ Some x

-- the element is in the path, at the place or after it, and no such element is before it in the file
pub record IsLeastFrom {X : Type 0} (before : X → X → Bool) (path : List X) (place : ℕ) (x : X) : Type 0 where
  pub among : IsFrom path place x
  pub least : (y : X) → IsFrom path place y → before y x ≡ false

-- the path ends in one of its own elements, and this is the least of the elements from there on
pub record Closes {X : Type 0} (before : X → X → Bool) (path : List X) (end : Option X) (x : X) : Type 0 where
  pub place : ℕ
  pub back : slice_get path place ≡ end
  pub least : IsLeastFrom before path place x

-- the path ends in none of its own elements
abbrev pub IsOpen : {X : Type 0} → List X → Option X → Type 0
IsOpen {X} path end = (place : ℕ) (x : X) → slice_get path place ≡ Some x → end ≡ Some x → ⊥

-- steps from visited elements lead to visited elements or to an end, and the first element of each loop among them is known
pub record IsSearched {X : Type 0} (step : X → Option X) (before : X → X → Bool) (seen firsts : X → Bool) : Type 0 where
  pub closed : (x y : X) → seen x ≡ true → step x ≡ Some y → (seen y ≡ true) ⊎ (step y ≡ None)
  pub sound : (x : X) → firsts x ≡ true → IsFirstOfLoop step before x
  pub complete : (x : X) → seen x ≡ true → IsFirstOfLoop step before x → firsts x ≡ true
