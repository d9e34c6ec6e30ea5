-- A step of the code: the open section, with the place of its context in the draft and the number of its last extension.
use Rattle.std.specs.Prelude.{ℕ, List, Option, None, IfSome}
use Rattle.std.specs.Option.{option_map}
use Rattle.dp_conf.specs.Words.{same_text}
use Rattle.dp_pattern.specs.Name.{Meaning}
use Rattle.dp_plan.specs.Extensions.{extension_of}
use Rattle.dp_plan.specs.History.{PlanHistory}
use Rattle.dp_plan.specs.steps.Reader.{ItemReading, history_in}
use Rattle.dp_plan.specs.steps.Table.{IsFirstAt, Table, HasNumber}
use Rattle.dp_plan.specs.declared.section.OpenContext.{OpenContext}
use Rattle.dp_plan.specs.declared.section.OpenSection.{OpenSection}
use Rattle.dp_plan.specs.declared.section.OpenSection.TheVariants.{Settings, Variables, Entries}
use Rattle.dp_plan.specs.declared.section.Section.{Section}
use Rattle.dp_plan.specs.declared.section.Section.TheVariants.{General, Globals, Context}

-- the section that its header names
abbrev pub section_of : OpenSection → Section
section_of Settings = General
section_of Variables = Globals
section_of (Entries opened) = Context opened.name

-- the name of the last extension since the header
abbrev pub last_name : OpenContext → Option Meaning
last_name opened = option_map (λ last. last.name) opened.last

abbrev pub last_of : OpenSection → Option Meaning
last_of Settings = None
last_of Variables = None
last_of (Entries opened) = last_name opened

-- what the lines so far leave for the next one, given the open section
abbrev pub reading_in : OpenSection → Table → ItemReading
reading_in opened table = record { section = section_of opened; name = last_of opened; extensions = table }

-- the history with which a line of the context is read
abbrev pub history_at : OpenContext → Table → PlanHistory
history_at opened table = history_in (reading_in (Entries opened) table)

-- the last extension of the context has its number
abbrev pub IsLast : Table → OpenContext → Type 0
IsLast table opened = IfSome opened.last (λ last. HasNumber table (extension_of opened.name last.name) last.number)

-- the context is at its place among the names, and its last extension has its number
pub record IsOpen (names : List (List ℕ)) (table : Table) (opened : OpenContext) : Type 0 where
  pub place : IsFirstAt (same_text opened.name) names opened.place
  pub last : IsLast table opened

-- the same, if the section is that of a context
abbrev pub IsOpenSection : List (List ℕ) → Table → OpenSection → Type 0
IsOpenSection names table Settings = Unit {0}
IsOpenSection names table Variables = Unit {0}
IsOpenSection names table (Entries opened) = IsOpen names table opened
