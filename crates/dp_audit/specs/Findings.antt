-- The findings of an audit in a dialplan.
use Rattle.std.specs.Prelude.{ℕ, ◌+◌, nat_eq, nat_lt, Bool, false, not, ◌&&◌, ◌==◌, List, [], ◌∷◌, ◌++◌, slice_get, map, is_some, if◌then◌else◌}
use Rattle.std.specs.Cmp.Lexicographic.{pointwise}
use Rattle.std.specs.List.{flat_map, list_any, range_with_len}
use Rattle.std.specs.Option.{option_map_or}
use Rattle.dp_lookup.specs.FoundEntry.{entries_at, found_entry}
use Rattle.dp_lookup.specs.SearchOrder.{context_count, has, links_at}
use Rattle.dp_pattern.specs.Name.{Meaning, Plain, Pattern}
use Rattle.dp_pattern.specs.Spelling.{spelling}
use Rattle.dp_plan.specs.Extensions.{same_name}
use Rattle.dp_plan.specs.Lookup.{entry_at}
use Rattle.dp_plan.specs.Plan.{PlanOf}
use Rattle.dp_plan.specs.Ranking.{ids_of}
use Rattle.dp_plan.specs.declared.entry.Entry.{Entry}
use Rattle.dp_plan.specs.declared.entry.EntryId.{EntryId}
use Rattle.dp_audit.specs.Hidden.{hidden_from}
use Rattle.dp_audit.specs.Labels.{is_unused}
use Rattle.dp_audit.specs.Orders.{order_at}
use Rattle.dp_audit.specs.Targets.{missing_targets}
use Rattle.dp_audit.specs.Unset.{unset_names}
use Rattle.dp_audit.specs.declared.finding.Finding.{Finding}
use Rattle.dp_audit.specs.declared.finding.Finding.TheVariants.{Cycle, NoApplication, NoTarget, Gap, NoFirst, Hidden, Unset, Unused}

-- the finding, if the condition holds
abbrev pub found_if : Bool → Finding → List Finding
found_if is_one finding = if is_one then finding ∷ [] else []

-- whether a context in its search order includes the context with a number
abbrev pub includes_itself : PlanOf → ℕ → Bool
includes_itself plan number = list_any (λ other. has (links_at plan other) number) (order_at plan number)

-- whether the context has an entry of the same extension with a greater priority
abbrev pub has_greater : List Entry → Entry → Bool
has_greater entries entry = list_any (λ other. same_name other.name entry.name && nat_lt entry.priority other.priority) entries

-- whether the context has an entry of the same extension with a lower priority
abbrev pub has_lower : List Entry → Entry → Bool
has_lower entries entry = list_any (λ other. same_name other.name entry.name && nat_lt other.priority entry.priority) entries

-- whether the name is plain, and the order has no entry for its text at the priority
abbrev pub lacks : PlanOf → List ℕ → Meaning → ℕ → Bool
lacks plan order (Plain text) priority = not (is_some (found_entry plan order text priority))
lacks plan order (Pattern classes tail) priority = false

-- whether the priority after the entry's is not found although its extension has a greater one
abbrev pub is_gap : PlanOf → EntryId → Entry → Bool
is_gap plan id entry =
    has_greater (entries_at plan id.context) entry && lacks plan (order_at plan id.context) entry.name (entry.priority + 1)

-- whether the entry has priority 1, and a name with this spelling
abbrev pub is_first : List ℕ → Entry → Bool
is_first text entry = pointwise nat_eq text (spelling entry.name) && entry.priority == 1

-- whether a context in the order has such an entry
abbrev pub some_first : PlanOf → List ℕ → List ℕ → Bool
some_first plan order text = list_any (λ number. list_any (is_first text) (entries_at plan number)) order

-- whether no call for the name finds priority 1: no entry is found for the text of a plain name, or no context in the order has priority 1
-- of the pattern
abbrev pub lacks_beginning : PlanOf → List ℕ → Meaning → Bool
lacks_beginning plan order (Plain text) = not (is_some (found_entry plan order text 1))
lacks_beginning plan order (Pattern classes tail) = not (some_first plan order (spelling (Pattern classes tail)))

-- whether the entry has the lowest priority of an extension without priority 1, and no priority 1 is found
abbrev pub lacks_first : PlanOf → EntryId → Entry → Bool
lacks_first plan id entry =
    not (has_lower (entries_at plan id.context) entry) && lacks_beginning plan (order_at plan id.context) entry.name

-- the findings on the priorities of the entry's extension
abbrev pub of_priorities : PlanOf → EntryId → Entry → List Finding
of_priorities plan id entry = found_if (is_gap plan id entry) (Gap id) ++ found_if (lacks_first plan id entry) (NoFirst id)

-- the contexts from which the entry is hidden
abbrev pub of_hidden : PlanOf → EntryId → Entry → List Finding
of_hidden plan id entry = map (Hidden id) (hidden_from plan id entry)

-- the name of the context with a number
abbrev pub context_name : PlanOf → ℕ → List ℕ
context_name plan number = option_map_or (λ context. context.name) (slice_get plan.contexts number) []

-- the findings on the entry's targets
abbrev pub of_targets : PlanOf → EntryId → Entry → List Finding
of_targets plan id entry = map (NoTarget id) (missing_targets plan (context_name plan id.context) entry)

-- the findings on the variables in the entry's arguments, and on its label
abbrev pub of_texts : (List ℕ → Bool) → PlanOf → EntryId → Entry → List Finding
of_texts known plan id entry = map (Unset id) (unset_names plan entry) ++ found_if (is_unused known plan entry) (Unused id)

-- the findings on the entry with these numbers, given which names the table has
abbrev pub of_entry : (List ℕ → Bool) → PlanOf → EntryId → Entry → List Finding
of_entry known plan id entry =
    found_if (not (known entry.application)) (NoApplication id) ++ of_targets plan id entry ++ of_priorities plan id entry
    ++ of_hidden plan id entry ++ of_texts known plan id entry

-- the findings on the entry with these numbers; none if there is no such entry
abbrev pub findings_of_entry : (List ℕ → Bool) → PlanOf → EntryId → List Finding
findings_of_entry known plan id = option_map_or (of_entry known plan id) (entry_at plan id) []

-- the findings on the entries of the context with a number, in the order of the file
abbrev pub findings_of_entries : (List ℕ → Bool) → PlanOf → ℕ → List Finding
findings_of_entries known plan number = flat_map (findings_of_entry known plan) (ids_of number (entries_at plan number))

-- the findings on a context, then on its entries in the order of the file
abbrev pub findings_of_context : (List ℕ → Bool) → PlanOf → ℕ → List Finding
findings_of_context known plan number =
    found_if (includes_itself plan number) (Cycle number) ++ findings_of_entries known plan number

-- the findings on all contexts, in the order of the file
unfoldable pub findings_of : (List ℕ → Bool) → PlanOf → List Finding
findings_of known plan = flat_map (findings_of_context known plan) (range_with_len 0 (context_count plan))
