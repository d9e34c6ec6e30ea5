-- Which contexts a call reaches only before a change of a dialplan, and which only after it.
use Rattle.std.specs.Prelude.{ℕ, ◌+◌, Bool, false, not, ◌&&◌, ◌==◌, List, ◌++◌, length, filter, codes}
use Rattle.std.specs.List.{flat_map, list_any}
use Rattle.std.specs.Option.{option_map_or}
use Rattle.dp_plan.specs.Lookup.{number_of}
use Rattle.dp_plan.specs.Plan.{PlanOf}
use Rattle.dp_plan.specs.declared.entry.EntryId.{EntryId}
use Rattle.dp_diff.specs.Differences.{names_of}
use Rattle.dp_diff.specs.declared.reaches.PlanReach.{PlanReach}

-- whether one of the entries is in the context with a number
abbrev pub has_entry_of : List EntryId → ℕ → Bool
has_entry_of entries number = list_any (λ id. number == id.context) entries

-- a dialplan, and whether a call may run an entry of its context with a number
pub record ReachOf : Type 0 where
  pub plan : PlanOf
  pub has_entry : ℕ → Bool

-- what the program is given
abbrev pub reach_now : PlanReach → ReachOf
reach_now reach = record { plan = reach.plan.now; has_entry = has_entry_of reach.entries.now }

-- whether a call reaches the context with a name, if the dialplan has it
abbrev pub reaches : ReachOf → List ℕ → Bool
reaches reach name = option_map_or reach.has_entry (number_of reach.plan name) false

-- whether a call reaches the context with a name in one dialplan, and in the other none of this name
abbrev pub reaches_only : ReachOf → ReachOf → List ℕ → Bool
reaches_only one other name = reaches one name && not (reaches other name)

-- the names of these contexts, in the order of the dialplan
unfoldable pub only_reached : ReachOf → ReachOf → List (List ℕ)
only_reached one other = filter (reaches_only one other) (names_of one.plan)

-- how many contexts a call reaches only before a change, and only after it
abbrev pub reach_count : ReachOf → ReachOf → ℕ
reach_count before after = length (only_reached before after) + length (only_reached after before)

-- the line of a context after a sign
abbrev pub reach_line : List ℕ → List ℕ → List ℕ
reach_line sign name = sign ++ codes "reaches " ++ name ++ codes "\n"

-- the lines of the contexts that a call reaches only before a change, and then of those that it reaches only after it
unfoldable pub reach_text : ReachOf → ReachOf → List ℕ
reach_text before after =
    flat_map (reach_line (codes "- ")) (only_reached before after) ++ flat_map (reach_line (codes "+ ")) (only_reached after before)
