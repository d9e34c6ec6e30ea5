-- What the items before a line say of it.
use Rattle.std.specs.Prelude.{ℕ, ◌&&◌, List, [], ◌∷◌, Option, Some, None, if◌then◌else◌}
use Rattle.std.specs.Option.{option_or, unwrap_or, option_flatten}
use Rattle.dp_conf.specs.Words.{same_text}
use Rattle.dp_pattern.specs.Name.{Meaning}
use Rattle.dp_plan.specs.Extensions.{same_name}
use Rattle.dp_plan.specs.declared.section.Section.{Section}
use Rattle.dp_plan.specs.declared.section.Section.TheVariants.{General}
use Rattle.dp_plan.specs.Item.{Item, Begins, Sets, Adds, Includes, Unknown}

-- the section of the line, the name of the last extension since its header, and the last priority of an extension
pub record PlanHistory : Type 0 where
  pub section : Section
  pub name : Option Meaning
  pub priority : List ℕ → Meaning → Option ℕ

-- the last value that the elements give
abbrev pub latest : {X Y : Type 0} → (X → Option Y) → List X → Option Y
latest f [] = None
latest f (x ∷ xs) = option_or (latest f xs) (f x)

-- the section that an item begins
abbrev pub section_in : Item → Option Section
section_in (Begins section) = Some section
section_in (Sets global) = None
section_in (Adds line context entry) = None
section_in (Includes line context name) = None
section_in (Unknown line) = None

-- the name that an item leaves for the lines after it: an entry leaves its own, and a header none
abbrev pub name_in : Item → Option (Option Meaning)
name_in (Begins section) = Some None
name_in (Sets global) = None
name_in (Adds line context entry) = Some (Some entry.name)
name_in (Includes line context name) = None
name_in (Unknown line) = None

-- the priority that an item gives to an extension
abbrev pub priority_in : List ℕ → Meaning → Item → Option ℕ
priority_in context name (Begins section) = None
priority_in context name (Sets global) = None
priority_in context name (Adds line c entry) =
    if same_text context c && same_name name entry.name then Some entry.priority else None
priority_in context name (Includes line c included) = None
priority_in context name (Unknown line) = None

-- what all items say together, including those that are dropped later
abbrev pub history_of : List Item → PlanHistory
history_of items = record {
  section = unwrap_or (latest section_in items) General;
  name = option_flatten (latest name_in items);
  priority = λ context name. latest (priority_in context name) items;
}
