-- The labels of a dialplan that nothing in it may name.
use Rattle.std.specs.Prelude.{◌≡◌, ℕ, Bool, false, not, ◌&&◌, ◌||◌, List, [], Option, Some, None, if◌then◌else◌}
use Rattle.std.specs.List.{list_any, filter_map, flat_map}
use Rattle.std.specs.Option.{option_map}
use Rattle.dp_conf.specs.Words.{same_text}
use Rattle.dp_plan.specs.Contexts.{PlanContext}
use Rattle.dp_plan.specs.Plan.{PlanOf}
use Rattle.dp_plan.specs.declared.entry.Entry.{Entry}
use Rattle.dp_audit.specs.Pieces.{first_piece, is_held}
use Rattle.dp_audit.specs.Targets.{jump_of, parts_of, parts_stand, targets_in}
use Rattle.dp_audit.specs.declared.jump.Jump.{Jump}
use Rattle.dp_audit.specs.declared.labels.Named.{Named}
use Rattle.dp_audit.specs.declared.labels.Naming.{Naming}

-- whether a target is computed, so that its value is unknown before a call
abbrev pub is_computed : Jump → List ℕ → Bool
is_computed jump text = not (parts_stand text (parts_of jump text))

-- the label or number that a target names literally
abbrev pub named_in : Jump → List ℕ → Option (List ℕ)
named_in jump text = if is_computed jump text then None else option_map (λ parts. parts.priority) (parts_of jump text)

-- whether the label is among the recorded ones
abbrev pub has_name : Named → List ℕ → Bool
has_name named label = list_any (same_text label) named.names.keys

-- some targets were added to the records: whether one of them is computed, and what they name
pub record Notes (old new : Named) (computed : Bool) (named : List (List ℕ)) : Type 0 where
  pub computing : new.is_computing ≡ (old.is_computing || computed)
  pub names : (label : List ℕ) → has_name new label ≡ (has_name old label || list_any (same_text label) named)

-- some targets were added to the records, given the targets
abbrev pub NotesTexts : Jump → Named → Named → List (List ℕ) → Type 0
NotesTexts jump old new texts = Notes old new (list_any (is_computed jump) texts) (filter_map (named_in jump) texts)

-- whether a target of the entry is computed
abbrev pub computes_by : Entry → Option Jump → Bool
computes_by entry None = false
computes_by entry (Some jump) = list_any (is_computed jump) (targets_in jump entry.arguments)

abbrev pub computes : Entry → Bool
computes entry = computes_by entry (jump_of entry.application)

-- the labels and numbers that the entry's targets name
abbrev pub names_by : Entry → Option Jump → List (List ℕ)
names_by entry None = []
names_by entry (Some jump) = filter_map (named_in jump) (targets_in jump entry.arguments)

abbrev pub names : Entry → List (List ℕ)
names entry = names_by entry (jump_of entry.application)

-- the entries of all contexts
abbrev pub entries_in : List PlanContext → List Entry
entries_in contexts = flat_map (λ context. context.entries) contexts

abbrev pub entries_of : PlanOf → List Entry
entries_of plan = entries_in plan.contexts

-- whether a target in the dialplan is computed
abbrev pub is_computing : PlanOf → Bool
is_computing plan = list_any computes (entries_of plan)

-- the labels and numbers that the dialplan's targets name
abbrev pub names_of : PlanOf → List (List ℕ)
names_of plan = flat_map names (entries_of plan)

-- the records are those of the dialplan's targets
pub record AreNamed (plan : PlanOf) (named : Named) : Type 0 where
  pub computing : named.is_computing ≡ is_computing plan
  pub names : (label : List ℕ) → has_name named label ≡ list_any (same_text label) (names_of plan)

-- whether the piece is among the recorded pieces of arguments
abbrev pub has_piece : Naming → List ℕ → Bool
has_piece naming piece = list_any (same_text piece) naming.pieces.keys

-- the records are everything that may name a label: the targets of the dialplan, and the pieces of arguments of applications that the table
-- lacks
pub record IsNaming (known : List ℕ → Bool) (plan : PlanOf) (naming : Naming) : Type 0 where
  pub targets : AreNamed plan naming.targets
  pub pieces : (piece : List ℕ) → has_piece naming piece ≡ is_held known plan piece

-- whether no target names the label and none is computed, and the first piece of the label is no piece of the arguments of an application
-- that the table lacks
abbrev pub is_unnamed : (List ℕ → Bool) → PlanOf → List ℕ → Bool
is_unnamed known plan label = not (is_computing plan || list_any (same_text label) (names_of plan)) && not (is_held known plan (first_piece label))

-- whether the label is unused in this way; false for an entry without a label
abbrev pub unused_by : (List ℕ → Bool) → PlanOf → Option (List ℕ) → Bool
unused_by known plan None = false
unused_by known plan (Some label) = is_unnamed known plan label

unfoldable pub is_unused : (List ℕ → Bool) → PlanOf → Entry → Bool
is_unused known plan entry = unused_by known plan entry.label
