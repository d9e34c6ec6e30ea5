-- The fields of an entry of a dialplan.
use Rattle.std.specs.Prelude.{ℕ, List, [], ◌∷◌, ◌++◌, Option, Some, None, codes}
use Rattle.dp_audit.specs.Findings.{context_name}
use Rattle.dp_pattern.specs.Spelling.{spelling}
use Rattle.dp_plan.specs.Lookup.{entry_at}
use Rattle.dp_plan.specs.Plan.{PlanOf}
use Rattle.dp_plan.specs.declared.entry.Entry.{Entry}
use Rattle.dp_plan.specs.declared.entry.EntryId.{EntryId}
use Rattle.dp_json.specs.Objects.{Field, text_field, number_field}

-- a context by its name
abbrev pub context_field : List ℕ → Field
context_field context = text_field (codes "context") context

-- a priority of an extension: the context, the extension's name and the priority
unfoldable pub place_fields : List ℕ → List ℕ → ℕ → List Field
place_fields context name priority = context_field context ∷ text_field (codes "name") name ∷ number_field (codes "priority") priority ∷ []

-- the label, if there is one
abbrev pub label_fields : Option (List ℕ) → List Field
label_fields None = []
label_fields (Some label) = text_field (codes "label") label ∷ []

-- the application that an entry runs
unfoldable pub application_field : List ℕ → Field
application_field application = text_field (codes "application") application

-- the arguments of an application, not expanded
unfoldable pub arguments_field : List ℕ → Field
arguments_field arguments = text_field (codes "arguments") arguments

-- what an entry runs: the application and its arguments
unfoldable pub action_fields : List ℕ → List ℕ → List Field
action_fields application arguments = application_field application ∷ arguments_field arguments ∷ []

-- an entry of the context with a name: its place, its label, and what it runs
unfoldable pub fields_of_entry : List ℕ → Entry → List Field
fields_of_entry context entry =
    place_fields context (spelling entry.name) entry.priority ++ label_fields entry.label ++ action_fields entry.application entry.arguments

-- the entry with these numbers; nothing if there is no such entry
abbrev pub entry_by : List ℕ → Option Entry → List Field
entry_by context None = []
entry_by context (Some entry) = fields_of_entry context entry

unfoldable pub entry_fields : PlanOf → EntryId → List Field
entry_fields plan id = entry_by (context_name plan id.context) (entry_at plan id)
