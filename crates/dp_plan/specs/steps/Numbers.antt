-- A step of the code: a number for each entry of a context. It is that of the entry's extension, which identifies entries with one name
-- without comparing names, or that of the entry's line.
use Rattle.std.specs.Prelude.{◌≡◌, ℕ, Bool, true, false, ◌==◌, List, [], ◌∷◌, ◌++◌, length, slice_get, Option, Some, None}
use Rattle.dp_plan.specs.Contexts.{PlanContext}
use Rattle.dp_plan.specs.Extensions.{same_name}
use Rattle.dp_plan.specs.declared.entry.Entry.{Entry}

-- the numbers with one more
abbrev pub with_number : ℕ → List ℕ → List ℕ
with_number number numbers = numbers ++ number ∷ []

-- there are two numbers, and they are the same
abbrev pub is_same_found : Option ℕ → Option ℕ → Bool
is_same_found None right = false
is_same_found (Some left) None = false
is_same_found (Some left) (Some right) = left == right

-- the numbers at the two places are the same
abbrev pub are_one : List ℕ → ℕ → ℕ → Bool
are_one numbers left right = is_same_found (slice_get numbers left) (slice_get numbers right)

-- entries with one number have one name
abbrev pub AreNumbered : List Entry → List ℕ → Type 0
AreNumbered entries numbers =
    (i j : ℕ) (a b : Entry) → slice_get entries i ≡ Some a → slice_get entries j ≡ Some b → are_one numbers i j ≡ true → same_name a.name b.name ≡ true

-- the entries of each context have their numbers
pub record AreAllNumbered (contexts : List PlanContext) (numbers : List (List ℕ)) : Type 0 where
  pub count : length numbers ≡ length contexts
  pub each : (number : ℕ) (context : PlanContext) (ns : List ℕ) → slice_get contexts number ≡ Some context → slice_get numbers number ≡ Some ns → AreNumbered context.entries ns
