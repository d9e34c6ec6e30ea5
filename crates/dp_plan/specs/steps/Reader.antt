-- A step of the code: what the lines so far leave for the next one, kept so that it is found at once. What all their
-- items leave, one after another, is `history_of` of History.
use Rattle.std.specs.Prelude.{ℕ, List, [], Option, Some, None}
use Rattle.std.specs.Map.{lookup}
use Rattle.indexmap.specs.IndexMap.{insert_entry}
use Rattle.dp_pattern.specs.Name.{Meaning}
use Rattle.dp_plan.specs.Extensions.{extension_of, same_extension}
use Rattle.dp_plan.specs.History.{PlanHistory}
use Rattle.dp_plan.specs.steps.Table.{Table}
use Rattle.dp_plan.specs.declared.entry.Entry.{Entry}
use Rattle.dp_plan.specs.declared.section.Section.{Section}
use Rattle.dp_plan.specs.declared.section.Section.TheVariants.{General}
use Rattle.dp_plan.specs.Item.{Item, Begins, Sets, Adds, Includes, Unknown}

-- the section, the last extension's name since its header, and the extensions with their last priorities
pub record ItemReading : Type 0 where
  pub section : Section
  pub name : Option Meaning
  pub extensions : Table

-- before the first line
abbrev pub nothing_read : ItemReading
nothing_read = record { section = General; name = None; extensions = [] }

-- after a header
abbrev pub after_header : ItemReading → Section → ItemReading
after_header reading section = record reading { section = section; name = None }

-- the extensions after a line of one of them
abbrev pub with_priority : Table → List ℕ → Meaning → ℕ → Table
with_priority table context name priority = insert_entry same_extension table (extension_of context name) priority

-- after the line of an entry
abbrev pub after_entry : ItemReading → List ℕ → Entry → ItemReading
after_entry reading context entry = record reading {
  name = Some entry.name;
  extensions = with_priority reading.extensions context entry.name entry.priority;
}

-- after one more item
abbrev pub after : ItemReading → Item → ItemReading
after reading (Begins section) = after_header reading section
after reading (Sets global) = reading
after reading (Adds line context entry) = after_entry reading context entry
after reading (Includes line context name) = reading
after reading (Unknown line) = reading

-- the last priority of an extension
abbrev pub last_priority : Table → List ℕ → Meaning → Option ℕ
last_priority table context name = lookup (same_extension (extension_of context name)) table

-- the history that this reading represents
abbrev pub history_in : ItemReading → PlanHistory
history_in reading = record { section = reading.section; name = reading.name; priority = last_priority reading.extensions }
