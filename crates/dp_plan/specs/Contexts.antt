-- A context of a dialplan.
use Rattle.std.specs.Prelude.{ℕ, List, [], ◌∷◌, ◌++◌}
use Rattle.std.specs.List.{All}
use Rattle.dp_pattern.specs.Name.{IsName}
use Rattle.dp_plan.specs.declared.entry.Entry.{Entry}

-- a context: its name, and its entries and the names of the contexts that it includes, in file order
pub record PlanContext : Type 0 where
  pub name : List ℕ
  pub entries : List Entry
  pub includes : List (List ℕ)

-- the name of each entry is the meaning of some text
abbrev pub AreNamed : List Entry → Type 0
AreNamed = All (λ entry. IsName entry.name)

-- the context with one more entry
abbrev pub with_entry : Entry → PlanContext → PlanContext
with_entry entry context = record context { entries = context.entries ++ entry ∷ [] }

-- the context with one more include
abbrev pub with_include : List ℕ → PlanContext → PlanContext
with_include name context = record context { includes = context.includes ++ name ∷ [] }
