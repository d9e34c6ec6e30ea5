-- The effect of a line of a dialplan.
use Rattle.std.specs.Prelude.{ℕ, List}
use Rattle.dp_plan.specs.declared.entry.Entry.{Entry}
use Rattle.dp_plan.specs.declared.plan.GlobalVariable.{GlobalVariable}
use Rattle.dp_plan.specs.declared.section.Section.{Section}

-- a section begins; a global variable is set; the line with this number adds an entry to the context with this name, or an include of the
-- second name to the context with the first; the line with this number has a key that its section does not know
pub data Item : Type 0 where
  Begins : Section → Item
  Sets : GlobalVariable → Item
  Adds : ℕ → List ℕ → Entry → Item
  Includes : ℕ → List ℕ → List ℕ → Item
  Unknown : ℕ → Item
