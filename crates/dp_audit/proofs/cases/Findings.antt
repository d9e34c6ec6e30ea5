-- The findings in dialplans, computed from the definitions themselves.
use Rattle.std.proofs.Common.{◌≡◌, ℕ, Bool, List, [], ◌∷◌, None, Some, refl}
use Rattle.std.specs.Prelude.{codes, nat_eq}
use Rattle.std.specs.Cmp.Lexicographic.{pointwise}
use Rattle.dp_conf.specs.Levels.{parts_of}
use Rattle.dp_pattern.specs.Name.{Meaning, Plain, Pattern}
use Rattle.dp_pattern.specs.Order.{name_cmp}
use Rattle.dp_pattern.specs.Spelling.{spelling}
use Rattle.dp_pattern.specs.declared.tail.Tail.TheVariants.{Dot}
use Rattle.dp_lookup.specs.FoundEntry.{found_entry}
use Rattle.dp_lookup.specs.SearchOrder.{visit}
use Rattle.dp_plan.specs.Contexts.{PlanContext}
use Rattle.dp_plan.specs.Plan.{PlanOf}
use Rattle.dp_plan.specs.declared.entry.Entry.{Entry}
use Rattle.dp_plan.specs.declared.entry.EntryId.{EntryId}
use Rattle.dp_vars.specs.Openings.{has_opening}
use Rattle.dp_audit.specs.Findings.{findings_of}
use Rattle.dp_audit.specs.Finders.{answers}
use Rattle.dp_audit.specs.Hidden.{hidden_from}
use Rattle.dp_audit.specs.Labels.{is_unused}
use Rattle.dp_audit.specs.Targets.{missing_targets}
use Rattle.dp_audit.specs.Unset.{names_read, unset_names}
use Rattle.dp_audit.specs.declared.finding.Finding.TheVariants.{Cycle, NoApplication, NoTarget, Gap, Hidden, NoFirst, Unset, Unused}

-- a table with one name
abbrev is_no_op : List ℕ → Bool
is_no_op name = pointwise nat_eq (codes "NoOp") name

abbrev plan_of : List PlanContext → PlanOf
plan_of contexts = record { globals = []; contexts = contexts }

abbrev context_of : List ℕ → List Entry → List (List ℕ) → PlanContext
context_of name entries includes = record { name = name; entries = entries; includes = includes }

abbrev entry_of : Meaning → ℕ → List ℕ → Entry
entry_of name priority application = record { name = name; priority = priority; label = None; application = application; arguments = [] }

abbrev id_of : ℕ → ℕ → EntryId
id_of context entry = record { context = context; entry = entry }

-- ---- cycles

-- `a` and `b` include each other, `c` includes itself, and `d` includes `a`, which does not include it
abbrev cycles : PlanOf
cycles = plan_of (
    context_of (codes "a") [] (codes "b" ∷ [])
    ∷ context_of (codes "b") [] (codes "x" ∷ codes "a" ∷ [])
    ∷ context_of (codes "c") [] (codes "c" ∷ [])
    ∷ context_of (codes "d") [] (codes "a" ∷ []) ∷ [])

found-cycles : findings_of is_no_op cycles ≡ Cycle 0 ∷ Cycle 1 ∷ Cycle 2 ∷ []
unfolding findings_of visit
found-cycles = refl

-- ---- applications

abbrev applications : PlanOf
applications = plan_of (
    context_of (codes "a") (
    entry_of (Plain (codes "1")) 1 (codes "NoOp")
    ∷ entry_of (Plain (codes "1")) 2 (codes "Nope") ∷ []) [] ∷ [])

found-applications : findings_of is_no_op applications ≡ NoApplication (id_of 0 1) ∷ []
unfolding findings_of visit found_entry name_cmp spelling missing_targets hidden_from unset_names names_read is_unused
found-applications = refl

-- ---- gaps

-- `1` goes on from 1 to 3, from 3 to 5 and no further; `2` goes on to a priority that an included context has,
-- whose pattern has no priority 1
abbrev gaps : PlanOf
gaps = plan_of (
    context_of (codes "a") (
    entry_of (Plain (codes "1")) 5 (codes "NoOp")
    ∷ entry_of (Plain (codes "1")) 1 (codes "NoOp")
    ∷ entry_of (Plain (codes "1")) 3 (codes "NoOp")
    ∷ entry_of (Plain (codes "2")) 3 (codes "NoOp")
    ∷ entry_of (Plain (codes "2")) 1 (codes "NoOp") ∷ []) (codes "b" ∷ [])
    ∷ context_of (codes "b") (entry_of (Pattern [] Dot) 2 (codes "NoOp") ∷ []) [] ∷ [])

found-gaps : findings_of is_no_op gaps ≡ Gap (id_of 0 2) ∷ NoFirst (id_of 1 0) ∷ []
unfolding findings_of visit found_entry name_cmp spelling missing_targets hidden_from unset_names names_read is_unused
found-gaps = refl

-- a pattern has no gap, since another name may give its texts the priority
abbrev patterns : PlanOf
patterns = plan_of (
    context_of (codes "a") (
    entry_of (Pattern [] Dot) 1 (codes "NoOp")
    ∷ entry_of (Pattern [] Dot) 3 (codes "NoOp") ∷ []) [] ∷ [])

found-patterns : findings_of is_no_op patterns ≡ []
unfolding findings_of visit found_entry name_cmp spelling missing_targets hidden_from unset_names names_read is_unused
found-patterns = refl

-- ---- first priorities

-- `1` begins at 2, and so does `2`, for which an included context has priority 1, and `3` begins at 1
abbrev beginnings : PlanOf
beginnings = plan_of (
    context_of (codes "a") (
    entry_of (Plain (codes "1")) 3 (codes "NoOp")
    ∷ entry_of (Plain (codes "1")) 2 (codes "NoOp")
    ∷ entry_of (Plain (codes "2")) 2 (codes "NoOp")
    ∷ entry_of (Plain (codes "3")) 1 (codes "NoOp") ∷ []) (codes "b" ∷ [])
    ∷ context_of (codes "b") (entry_of (Plain (codes "2")) 1 (codes "NoOp") ∷ []) [] ∷ [])

found-beginnings : findings_of is_no_op beginnings ≡ NoFirst (id_of 0 1) ∷ []
unfolding findings_of visit found_entry name_cmp spelling missing_targets hidden_from unset_names names_read is_unused
found-beginnings = refl

-- two patterns begin at 2; an included context has the second with priority 1
abbrev pattern_beginnings : PlanOf
pattern_beginnings = plan_of (
    context_of (codes "a") (
    entry_of (Pattern ((50 ∷ []) ∷ []) Dot) 2 (codes "NoOp")
    ∷ entry_of (Pattern [] Dot) 2 (codes "NoOp") ∷ []) (codes "b" ∷ [])
    ∷ context_of (codes "b") (entry_of (Pattern [] Dot) 1 (codes "NoOp") ∷ []) [] ∷ [])

found-pattern_beginnings : findings_of is_no_op pattern_beginnings ≡ NoFirst (id_of 0 0) ∷ []
unfolding findings_of visit found_entry name_cmp spelling missing_targets hidden_from unset_names names_read is_unused
found-pattern_beginnings = refl

-- ---- hidden entries

-- `a` includes `b`: `1` of `b` is hidden from it at priority 1 and not at 2, `2` has no other, and from `b` nothing is hidden
abbrev hidden_plan : PlanOf
hidden_plan = plan_of (
    context_of (codes "a") (
    entry_of (Plain (codes "1")) 1 (codes "NoOp") ∷ []) (codes "b" ∷ [])
    ∷ context_of (codes "b") (
    entry_of (Plain (codes "1")) 1 (codes "NoOp")
    ∷ entry_of (Plain (codes "1")) 2 (codes "NoOp")
    ∷ entry_of (Plain (codes "2")) 1 (codes "NoOp") ∷ []) [] ∷ [])

found-hidden_plan : findings_of is_no_op hidden_plan ≡ Hidden (id_of 1 0) 0 ∷ []
unfolding findings_of visit found_entry name_cmp spelling missing_targets hidden_from unset_names names_read is_unused
found-hidden_plan = refl

-- `a` and `b` include each other, and each hides the other's `1`
abbrev hidden_in_cycle : PlanOf
hidden_in_cycle = plan_of (
    context_of (codes "a") (entry_of (Plain (codes "1")) 1 (codes "NoOp") ∷ []) (codes "b" ∷ [])
    ∷ context_of (codes "b") (entry_of (Plain (codes "1")) 1 (codes "NoOp") ∷ []) (codes "a" ∷ []) ∷ [])

found-hidden_in_cycle : findings_of is_no_op hidden_in_cycle ≡ Cycle 0 ∷ Hidden (id_of 0 0) 1 ∷ Cycle 1 ∷ Hidden (id_of 1 0) 0 ∷ []
unfolding findings_of visit found_entry name_cmp spelling missing_targets hidden_from unset_names names_read is_unused
found-hidden_in_cycle = refl

-- `a` includes `b`, which includes `c` and then `d`: the pattern of `c` hides that of `d` from both, though neither has one
abbrev hidden_by_way : PlanOf
hidden_by_way = plan_of (
    context_of (codes "a") [] (codes "b" ∷ [])
    ∷ context_of (codes "b") [] (codes "c" ∷ codes "d" ∷ [])
    ∷ context_of (codes "c") (entry_of (Pattern ((50 ∷ []) ∷ []) Dot) 1 (codes "NoOp") ∷ []) []
    ∷ context_of (codes "d") (entry_of (Pattern ((50 ∷ []) ∷ []) Dot) 1 (codes "NoOp") ∷ []) [] ∷ [])

found-hidden_by_way : findings_of is_no_op hidden_by_way ≡ Hidden (id_of 3 0) 0 ∷ Hidden (id_of 3 0) 1 ∷ []
unfolding findings_of visit found_entry name_cmp spelling missing_targets hidden_from unset_names names_read is_unused
found-hidden_by_way = refl

-- ---- texts

abbrev with_arguments : Entry → List ℕ → Entry
with_arguments entry arguments = record entry { arguments = arguments }

-- a jump to a priority that does not exist, from an entry with a label, and a variable that nothing sets beside one that a channel gives
abbrev texts : PlanOf
texts = plan_of (
    context_of (codes "a") (
    record (with_arguments (entry_of (Plain (codes "1")) 1 (codes "Goto")) (codes "9")) { label = Some (codes "x") }
    ∷ with_arguments (entry_of (Plain (codes "1")) 2 (codes "NoOp")) (codes "${X:1} ${EXTEN}") ∷ []) [] ∷ [])

found-texts : findings_of is_no_op texts
    ≡ NoApplication (id_of 0 0) ∷ NoTarget (id_of 0 0) (codes "9") ∷ Unused (id_of 0 0) ∷ Unset (id_of 0 1) (codes "X") ∷ []
unfolding findings_of visit found_entry name_cmp spelling missing_targets hidden_from unset_names names_read is_unused answers parts_of has_opening
found-texts = refl

-- ---- labels

abbrev with_label : Entry → List ℕ → Entry
with_label entry label = record entry { label = Some label }

-- an application that the table lacks may name `x` and `z`, and not `xy`
abbrev held_labels : PlanOf
held_labels = plan_of (
    context_of (codes "a") (
    with_label (entry_of (Plain (codes "1")) 1 (codes "NoOp")) (codes "x")
    ∷ with_label (entry_of (Plain (codes "1")) 2 (codes "NoOp")) (codes "xy")
    ∷ with_label (entry_of (Plain (codes "1")) 3 (codes "NoOp")) (codes "z") ∷ []) []
    ∷ context_of (codes "b") (
    with_arguments (entry_of (Plain (codes "1")) 1 (codes "Later")) (codes "1?x: z ,s,1") ∷ []) [] ∷ [])

found-held_labels : findings_of is_no_op held_labels ≡ Unused (id_of 0 1) ∷ NoApplication (id_of 1 0) ∷ []
unfolding findings_of visit found_entry name_cmp spelling missing_targets hidden_from unset_names names_read is_unused answers parts_of has_opening
found-held_labels = refl

-- one that the table has names none with the same arguments
abbrev known_labels : PlanOf
known_labels = plan_of (
    context_of (codes "a") (
    with_label (with_arguments (entry_of (Plain (codes "1")) 1 (codes "NoOp")) (codes "1?x: z ,s,1")) (codes "x") ∷ []) [] ∷ [])

found-known_labels : findings_of is_no_op known_labels ≡ Unused (id_of 0 0) ∷ []
unfolding findings_of visit found_entry name_cmp spelling missing_targets hidden_from unset_names names_read is_unused answers parts_of has_opening
found-known_labels = refl
