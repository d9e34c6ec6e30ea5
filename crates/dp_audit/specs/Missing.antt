-- Targets that lead nowhere, in the arguments of a table's applications.
use Rattle.std.specs.Prelude.{ℕ, Bool, false, List, [], filter, map}
use Rattle.std.specs.List.{flat_map, range_with_len}
use Rattle.std.specs.Option.{option_map_or}
use Rattle.dp_lookup.specs.FoundEntry.{entries_at}
use Rattle.dp_lookup.specs.SearchOrder.{context_count}
use Rattle.dp_plan.specs.Lookup.{entry_at}
use Rattle.dp_plan.specs.Plan.{PlanOf}
use Rattle.dp_plan.specs.Ranking.{ids_of}
use Rattle.dp_plan.specs.declared.entry.EntryId.{EntryId}
use Rattle.dp_audit.specs.Findings.{context_name}
use Rattle.dp_audit.specs.Targets.{is_missing}
use Rattle.dp_audit.specs.declared.finding.Finding.{Finding}
use Rattle.dp_audit.specs.declared.finding.Finding.TheVariants.{NoTarget}
use Rattle.dp_audit.specs.declared.jump.Jump.{Jump}
use Rattle.dp_audit.specs.declared.missing.TargetAt.{TargetAt}

-- a target: how an application jumps there, and its text
pub record TargetOf : Type 0 where
  pub jump : Jump
  pub text : List ℕ

-- a target of the entry with these numbers
pub record EntryTarget : Type 0 where
  pub entry : EntryId
  pub jump : Jump
  pub text : List ℕ

abbrev pub target_at : EntryId → TargetOf → EntryTarget
target_at id target = record { entry = id; jump = target.jump; text = target.text }

abbrev pub target_now : TargetAt → EntryTarget
target_now target = record { entry = target.entry; jump = target.jump; text = target.text.now }

module _ (targets : List ℕ → List ℕ → List TargetOf) where
  -- the targets in the arguments of the entry with these numbers; none if there is no such entry
  abbrev pub of_id : PlanOf → EntryId → List EntryTarget
  of_id plan id = option_map_or (λ entry. map (target_at id) (targets entry.application entry.arguments)) (entry_at plan id) []

  -- the targets in the arguments of the entries of the context with a number
  abbrev pub of_context : PlanOf → ℕ → List EntryTarget
  of_context plan number = flat_map (of_id plan) (ids_of number (entries_at plan number))

  -- the targets in the arguments of all entries, in the order of the file
  unfoldable pub targets_of : PlanOf → List EntryTarget
  targets_of plan = flat_map (of_context plan) (range_with_len 0 (context_count plan))

-- whether a target is literal and leads nowhere, from its entry
abbrev pub is_missing_at : PlanOf → EntryTarget → Bool
is_missing_at plan target =
    option_map_or (λ entry. is_missing plan (context_name plan target.entry.context) entry.name target.jump target.text) (entry_at plan target.entry) false

-- the findings on those of the targets that are literal and lead nowhere
abbrev pub missing_among : PlanOf → List EntryTarget → List Finding
missing_among plan targets = map (λ target. NoTarget target.entry target.text) (filter (is_missing_at plan) targets)

-- the findings on those targets of all entries that are literal and lead nowhere, in the order of the file
unfoldable pub missing_of : (List ℕ → List ℕ → List TargetOf) → PlanOf → List Finding
missing_of targets plan = missing_among plan (targets_of targets plan)
