-- A dialplan that can be written and read again, and its lines.
use Rattle.std.proofs.Common.{◌≡◌, ℕ, ◌+◌, Bool, false, List, [], ◌∷◌, ◌++◌, map, codes}
use Rattle.std.specs.List.{AllByRecursion, flat_map}
use Rattle.dp_conf.specs.Lines.{LineOf, Header, Pair}
use Rattle.dp_pattern.specs.Spelling.{spelling}
use Rattle.dp_plan.specs.Contexts.{PlanContext}
use Rattle.dp_plan.specs.Plan.{PlanOf, Addition, is_taken, is_named}
use Rattle.dp_plan.specs.declared.entry.Entry.{Entry}
use Rattle.dp_plan.specs.declared.plan.GlobalVariable.{GlobalVariable}
use Rattle.dp_plan.proofs.PartsKnown.{IsContextName, IsGlobal, IsEntry, IsIncluded}
use Rattle.dp_lister.specs.Listing.{priority_text}

-- no element is taken by those before it
abbrev pub IsFresh : {X : Type 0} → (List X → X → Bool) → List X → List X → Type 0
IsFresh taken before [] = Unit {0}
IsFresh taken before (x ∷ xs) = (taken before x ≡ false) × IsFresh taken (before ++ x ∷ []) xs

-- the entries of a context, as its lines add them
abbrev pub additions_of : PlanContext → List Addition
additions_of context = map (λ entry. record { context = context.name; entry = entry }) context.entries

-- a context in which no entry takes the place or the label of one before it
pub record IsContext (context : PlanContext) : Type 0 where
  pub name : IsContextName context.name
  pub entries : AllByRecursion IsEntry context.entries
  pub includes : AllByRecursion IsIncluded context.includes
  pub apart : IsFresh is_taken [] (additions_of context)

-- a dialplan that can be written and read again
pub record IsCanonical (plan : PlanOf) : Type 0 where
  pub globals : AllByRecursion IsGlobal plan.globals
  pub contexts : AllByRecursion IsContext plan.contexts
  pub names : IsFresh is_named [] (map (λ context. context.name) plan.contexts)

-- ---- the lines of a dialplan

-- an application with its arguments
abbrev pub called_text : List ℕ → List ℕ → List ℕ
called_text name arguments = name ++ 40 ∷ (arguments ++ 41 ∷ [])

-- the value of an entry's line: the name, the priority with its label, and the application
abbrev pub entry_text : Entry → List ℕ
entry_text entry =
    spelling entry.name ++ 44 ∷ (priority_text entry.priority entry.label ++ 44 ∷ called_text entry.application entry.arguments)

-- the lines, given their numbers
abbrev pub header_of : List ℕ → ℕ → LineOf
header_of name line = Header line name

abbrev pub global_of : GlobalVariable → ℕ → LineOf
global_of global line = Pair line global.name global.value

abbrev pub exten_of : Entry → ℕ → LineOf
exten_of entry line = Pair line (codes "exten") (entry_text entry)

abbrev pub include_of : List ℕ → ℕ → LineOf
include_of name line = Pair line (codes "include") name

abbrev pub lines_of_globals : List GlobalVariable → List (ℕ → LineOf)
lines_of_globals [] = []
lines_of_globals (global ∷ globals) = header_of (codes "globals") ∷ map global_of (global ∷ globals)

abbrev pub lines_of_context : PlanContext → List (ℕ → LineOf)
lines_of_context context = header_of context.name ∷ (map exten_of context.entries ++ map include_of context.includes)

abbrev pub lines_of_contexts : List PlanContext → List (ℕ → LineOf)
lines_of_contexts contexts = flat_map lines_of_context contexts

abbrev pub numbered_lines : ℕ → List (ℕ → LineOf) → List LineOf
numbered_lines n [] = []
numbered_lines n (line ∷ lines) = line (n + 1) ∷ numbered_lines (n + 1) lines

-- the lines of a dialplan
abbrev pub canonical_lines : PlanOf → List LineOf
canonical_lines plan = numbered_lines 0 (lines_of_globals plan.globals ++ lines_of_contexts plan.contexts)
