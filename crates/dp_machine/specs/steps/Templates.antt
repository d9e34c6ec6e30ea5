-- The parts of entries that are read once. Nothing is said of the number of an application, because nothing depends on it.
use Rattle.std.specs.Prelude.{◌≡◌, ℕ, List, None, Option, slice_get}
use Rattle.std.specs.List.{AllZip}
use Rattle.std.specs.Option.{option_and_then}
use Rattle.dp_plan.specs.Contexts.{PlanContext}
use Rattle.dp_plan.specs.declared.entry.Entry.{Entry}
use Rattle.dp_plan.specs.declared.entry.EntryId.{EntryId}
use Rattle.dp_vars.specs.Pieces as pieces
use Rattle.dp_vars.specs.Sights.{Sight}
use Rattle.dp_vars.specs.Functions.{FunctionTable}
use Rattle.dp_vars.specs.Unknown.{first_unknown}
use Rattle.dp_vars.specs.Values.{expansion_with}
use Rattle.dp_machine.specs.declared.templates.Arguments.{Arguments}
use Rattle.dp_machine.specs.declared.templates.Arguments.TheVariants.{Plain, Read}
use Rattle.dp_machine.specs.declared.templates.EntryTemplate.{EntryTemplate}

-- a text is its own expansion and all in it is known, with any functions and in any view
pub record IsPlainText (text : List ℕ) : Type 0 where
  pub same : (functions : FunctionTable) (sight : Sight) → expansion_with functions sight text ≡ text
  pub known : (functions : FunctionTable) (sight : Sight) → first_unknown functions sight text ≡ None

-- the arguments are the template of this text
abbrev pub AreTemplate : List ℕ → Arguments → Type 0
AreTemplate text Plain = IsPlainText text
AreTemplate text (Read read) = pieces.AreOf text read

-- the template is that of the entry's arguments
abbrev pub IsOf : Entry → EntryTemplate → Type 0
IsOf entry template = AreTemplate entry.arguments template.arguments

-- the templates are those of the entries, one each
abbrev pub AreOf : List Entry → List EntryTemplate → Type 0
AreOf entries templates = AllZip IsOf entries templates

-- the templates are those of the contexts' entries
abbrev pub AreTemplates : List PlanContext → List (List EntryTemplate) → Type 0
AreTemplates contexts templates = AllZip (λ context held. AreOf context.entries held) contexts templates

-- the template of the entry with these numbers
abbrev pub template_at : List (List EntryTemplate) → EntryId → Option EntryTemplate
template_at templates id = option_and_then (λ held. slice_get held id.entry) (slice_get templates id.context)
