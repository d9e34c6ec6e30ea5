-- The boxes of a picture: one for each context of the dialplan, with a row for each of its extensions.
use Rattle.std.specs.Prelude.{ℕ, Bool, not, List, [], ◌∷◌, ◌++◌, map, codes, if◌then◌else◌}
use Rattle.std.specs.List.{flat_map, list_all, list_any, range_with_len}
use Rattle.std.specs.Option.{option_map, option_to_list}
use Rattle.dp_pattern.specs.Spelling.{spelling}
use Rattle.dp_plan.specs.Lookup.{entry_at}
use Rattle.dp_plan.specs.Plan.{PlanOf}
use Rattle.dp_plan.specs.declared.entry.Entry.{Entry}
use Rattle.dp_plan.specs.declared.entry.EntryId.{EntryId}
use Rattle.dp_lookup.specs.SearchOrder.{context_count}
use Rattle.dp_audit.specs.Candidates.{extensions, ranked_of, same_id}
use Rattle.dp_audit.specs.Findings.{context_name}
use Rattle.dp_graph.specs.Shading.{ShadingOf, Unshaded, ByCall, ByTests}
use Rattle.dp_graph.specs.declared.shade.Shade.{Shade}
use Rattle.dp_graph.specs.declared.shade.Shade.TheVariants.{Plain, Reached, Unreached, AllRan, SomeRan, NoneRan}

-- whether an entry is among others
abbrev pub is_among : List EntryId → EntryId → Bool
is_among others id = list_any (same_id id) others

-- whether one of some entries is among others
abbrev pub some_among : List EntryId → List EntryId → Bool
some_among others ids = list_any (is_among others) ids

-- whether all of some entries are among others
abbrev pub all_among : List EntryId → List EntryId → Bool
all_among others ids = list_all (is_among others) ids

-- how entries are shown, given those that a call reaches
abbrev pub shade_by_call : List EntryId → List EntryId → Shade
shade_by_call reached ids = if some_among reached ids then Reached else Unreached

-- how entries are shown, given those that tests ran; of no entries none ran
abbrev pub shade_by_tests : List EntryId → List EntryId → Shade
shade_by_tests ran ids = if not (some_among ran ids) then NoneRan else if all_among ran ids then AllRan else SomeRan

-- how entries are shown
abbrev pub shade_of : ShadingOf → List EntryId → Shade
shade_of Unshaded ids = Plain
shade_of (ByCall reached) ids = shade_by_call reached ids
shade_of (ByTests ran) ids = shade_by_tests ran ids

-- a row: the name of an extension, what its first entry does, and what is known of its entries
pub record BoxRow : Type 0 where
  pub name : List ℕ
  pub action : List ℕ
  pub shade : Shade

-- what an entry does, `APP(ARGUMENTS)`
abbrev pub action_of : Entry → List ℕ
action_of entry = entry.application ++ codes "(" ++ entry.arguments ++ codes ")"

-- the row of an extension with this shade, given its first entry
abbrev pub row_by : Shade → Entry → BoxRow
row_by shade entry = record { name = spelling entry.name; action = action_of entry; shade = shade }

-- the row of an extension, whose entries are ranked, so that the first has the least priority
abbrev pub rows_of : PlanOf → ShadingOf → List EntryId → List BoxRow
rows_of plan shading [] = []
rows_of plan shading (first ∷ ids) = option_to_list (option_map (row_by (shade_of shading (first ∷ ids))) (entry_at plan first))

-- a box: the number and the name of a context, what is known of its entries, and its rows
pub record Box : Type 0 where
  pub number : ℕ
  pub name : List ℕ
  pub shade : Shade
  pub rows : List BoxRow

-- the box of the context with a number, with its extensions in the order in which a look-up tries them
abbrev pub box_at : PlanOf → ShadingOf → ℕ → Box
box_at plan shading number = record {
  number = number;
  name = context_name plan number;
  shade = shade_of shading (ranked_of plan number);
  rows = flat_map (rows_of plan shading) (extensions plan (ranked_of plan number));
}

-- the boxes of all contexts, in their order
abbrev pub boxes_of : PlanOf → ShadingOf → List Box
boxes_of plan shading = map (box_at plan shading) (range_with_len 0 (context_count plan))
