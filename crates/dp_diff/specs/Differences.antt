-- What answers differently after a change of a dialplan.
use Rattle.std.specs.Prelude.{ℕ, Bool, false, not, ◌&&◌, List, [], ◌∷◌, ◌++◌, map, filter, Option, None, Some, if◌then◌else◌}
use Rattle.std.specs.List.{find, flat_map}
use Rattle.dp_conf.specs.Words.{same_text, same_word}
use Rattle.dp_plan.specs.Plan.{PlanOf, is_named}
use Rattle.dp_plan.specs.Ranking.{shares_place}
use Rattle.dp_plan.specs.declared.entry.Entry.{Entry}
use Rattle.dp_diff.specs.Answering.{answering, has_place}

-- a context, and the entries with which it answers at one name and priority before and after the change; one of them may be missing
pub record Difference : Type 0 where
  pub context : List ℕ
  pub before : Option Entry
  pub after : Option Entry

-- two entries do the same: their arguments are equal, and so are their applications except for the case of ASCII letters
abbrev pub does_same : Entry → Entry → Bool
does_same a b = same_word a.application b.application && same_text a.arguments b.arguments

-- what answers after the change, if anything does, does the same as an entry
abbrev pub is_kept : Entry → Option Entry → Bool
is_kept entry None = false
is_kept entry (Some other) = does_same entry other

-- the difference at an entry that answered before the change, given what answers there after it
abbrev pub changed_to : List ℕ → Entry → Option Entry → List Difference
changed_to context entry other =
    if is_kept entry other then [] else (record { context = context; before = Some entry; after = other }) ∷ []

-- the difference at an entry that answered before the change, given all that answer after it
abbrev pub change_at : List ℕ → List Entry → Entry → List Difference
change_at context after entry = changed_to context entry (find (shares_place entry) after)

-- the difference at an entry that answers after the change, unless there was one before
abbrev pub addition_at : List ℕ → List Entry → Entry → List Difference
addition_at context before entry =
    if has_place before entry then [] else (record { context = context; before = None; after = Some entry }) ∷ []

-- the differences in a context, given the entries with which it answers before and after the change
abbrev pub differences_between : List ℕ → List Entry → List Entry → List Difference
differences_between context before after = flat_map (change_at context after) before ++ flat_map (addition_at context before) after

-- the differences in a context
abbrev pub differences_in : PlanOf → PlanOf → List ℕ → List Difference
differences_in before after context = differences_between context (answering before context) (answering after context)

-- the names of the contexts of a dialplan, in the order of first appearance
abbrev pub names_of : PlanOf → List (List ℕ)
names_of plan = map (λ context. context.name) plan.contexts

-- the contexts of the dialplan before the change, and then those that only the dialplan after it has
abbrev pub contexts_of : PlanOf → PlanOf → List (List ℕ)
contexts_of before after = names_of before ++ filter (λ name. not (is_named (names_of before) name)) (names_of after)

-- all differences between the dialplans before and after a change
unfoldable pub differences : PlanOf → PlanOf → List Difference
differences before after = flat_map (differences_in before after) (contexts_of before after)
