-- How the values of function calls depend on the limit of their nesting: not at all if they are known.
use Rattle.std.specs.Prelude.{◌≡◌, ℕ, true, List}
use Rattle.dp_vars.specs.Functions.{FunctionTable}
use Rattle.dp_vars.specs.Sights.{Sight}

-- whatever one table knows the other knows too, with the same value
pub record KnowsNoMore (less more : FunctionTable) : Type 0 where
  pub knows : (sight : Sight) (name argument : List ℕ) → less.knows sight name argument ≡ true → more.knows sight name argument ≡ true
  pub value : (sight : Sight) (name argument : List ℕ) → less.knows sight name argument ≡ true
      → more.value sight name argument ≡ less.value sight name argument
