-- Search orders, and the entries found in them, computed from the definitions themselves.
use Rattle.std.proofs.Common.{◌≡◌, ℕ, true, false, List, [], ◌∷◌, Option, Some, None, refl}
use Rattle.std.specs.Prelude.{codes}
use Rattle.dp_pattern.specs.Name.{Meaning, Plain, Pattern}
use Rattle.dp_pattern.specs.Order.{name_cmp}
use Rattle.dp_pattern.specs.declared.tail.Tail.TheVariants.{End, Dot}
use Rattle.dp_plan.specs.Contexts.{PlanContext}
use Rattle.dp_plan.specs.Plan.{PlanOf}
use Rattle.dp_plan.specs.declared.entry.Entry.{Entry}
use Rattle.dp_plan.specs.declared.entry.EntryId.{EntryId}
use Rattle.dp_lookup.specs.FoundEntry.{found_entry, found_label, goes_on_more}
use Rattle.dp_lookup.specs.SearchOrder.{links_at, visit, search_order}

-- a context with this name that includes the contexts with these names
abbrev including : List ℕ → List (List ℕ) → PlanContext
including name includes = record { name = name; entries = []; includes = includes }

abbrev plan_of : List PlanContext → PlanOf
plan_of contexts = record { globals = []; contexts = contexts }

-- two contexts that include each other
abbrev cycle : PlanOf
cycle = plan_of (including (codes "a") (codes "b" ∷ []) ∷ including (codes "b") (codes "a" ∷ []) ∷ [])

order-cycle : search_order cycle (codes "a") ≡ 0 ∷ 1 ∷ []
unfolding visit
order-cycle = refl

order-cycle_from_the_other : search_order cycle (codes "b") ≡ 1 ∷ 0 ∷ []
unfolding visit
order-cycle_from_the_other = refl

order-unknown : search_order cycle (codes "c") ≡ []
order-unknown = refl

-- `a` includes `b` and `c`, which both include `d`
abbrev both : PlanOf
both = plan_of (
    including (codes "a") (codes "b" ∷ codes "c" ∷ [])
    ∷ including (codes "b") (codes "d" ∷ [])
    ∷ including (codes "c") (codes "d" ∷ codes "b" ∷ [])
    ∷ including (codes "d") [] ∷ [])

-- depth first, and each context once
order-both : search_order both (codes "a") ≡ 0 ∷ 1 ∷ 3 ∷ 2 ∷ []
unfolding visit
order-both = refl

order-both_from_the_last : search_order both (codes "c") ≡ 2 ∷ 3 ∷ 1 ∷ []
unfolding visit
order-both_from_the_last = refl

-- `a` includes itself, `b` twice, and an unknown context
abbrev again : PlanOf
again = plan_of (
    including (codes "a") (codes "a" ∷ codes "b" ∷ codes "x" ∷ codes "b" ∷ codes "c" ∷ [])
    ∷ including (codes "b") []
    ∷ including (codes "c") [] ∷ [])

links-again : links_at again 0 ≡ 0 ∷ 1 ∷ 3 ∷ 1 ∷ 2 ∷ []
links-again = refl

order-again : search_order again (codes "a") ≡ 0 ∷ 1 ∷ 2 ∷ []
unfolding visit
order-again = refl

-- ---- found entries

-- an entry with this name, priority and label
abbrev entry_of : Meaning → ℕ → Option (List ℕ) → Entry
entry_of name priority label = record { name = name; priority = priority; label = label; application = codes "NoOp"; arguments = [] }

-- the entry with this number in the context with that number
abbrev id_of : ℕ → ℕ → Option EntryId
id_of context entry = Some (record { context = context; entry = entry })

-- the first context has any name, and `12` twice; the second has `12`, with one label twice, and `s`
abbrev office : PlanOf
office = plan_of (
    (record {
      name = codes "office";
      entries = entry_of (Pattern [] Dot) 1 None ∷ entry_of (Plain (codes "12")) 2 None ∷ entry_of (Plain (codes "12")) 1 None ∷ [];
      includes = codes "hall" ∷ [];
    })
    ∷ (record {
      name = codes "hall";
      entries =
          entry_of (Plain (codes "12")) 5 (Some (codes "out"))
          ∷ entry_of (Plain (codes "12")) 3 (Some (codes "out"))
          ∷ entry_of (Plain (codes "s")) 1 (Some (codes "begin")) ∷ [];
      includes = [];
    })
    ∷ [])

abbrev both_contexts : List ℕ
both_contexts = 0 ∷ 1 ∷ []

-- the more specific name, wherever it is in the file
found-specific : found_entry office both_contexts (codes "1-2") 1 ≡ id_of 0 2
unfolding found_entry name_cmp
found-specific = refl

found-any : found_entry office both_contexts (codes "77") 1 ≡ id_of 0 0
unfolding found_entry name_cmp
found-any = refl

found-another_priority : found_entry office both_contexts (codes "12") 2 ≡ id_of 0 1
unfolding found_entry name_cmp
found-another_priority = refl

-- the first context in the order that has one; a number without a context finds nothing
found-first_context : found_entry office both_contexts (codes "s") 1 ≡ id_of 0 0
unfolding found_entry name_cmp
found-first_context = refl

found-another_order : found_entry office (9 ∷ 1 ∷ 0 ∷ []) (codes "s") 1 ≡ id_of 1 2
unfolding found_entry name_cmp
found-another_order = refl

found-second_context : found_entry office both_contexts (codes "12") 3 ≡ id_of 1 1
unfolding found_entry name_cmp
found-second_context = refl

found-none : found_entry office both_contexts (codes "12") 4 ≡ None
unfolding found_entry name_cmp
found-none = refl

-- two entries with the same name and priority, which no loaded dialplan has, and a name that is not the meaning of a text
abbrev doubled_plan : PlanOf
doubled_plan = plan_of (
    (record {
      name = codes "doubled_plan";
      entries =
          entry_of (Plain (codes "1")) 2 None
          ∷ entry_of (Plain (codes "7")) 1 None
          ∷ entry_of (Plain (codes "7")) 1 None ∷ [];
      includes = [];
    })
    ∷ (record { name = codes "no member"; entries = entry_of (Pattern ([] ∷ []) End) 1 None ∷ []; includes = [] })
    ∷ [])

-- of equal entries, the first in the file
found-first_of_two : found_entry doubled_plan (0 ∷ []) (codes "7") 1 ≡ id_of 0 1
unfolding found_entry name_cmp
found-first_of_two = refl

-- of two labels with the same name, the lower priority
label-lowest : found_label office both_contexts (codes "12") (codes "out") ≡ Some 3
unfolding found_label name_cmp
label-lowest = refl

label-of_another_name : found_label office both_contexts (codes "12") (codes "begin") ≡ None
unfolding found_label name_cmp
label-of_another_name = refl

label-none : found_label office (0 ∷ []) (codes "12") (codes "out") ≡ None
unfolding found_label name_cmp
label-none = refl

-- any name can go on forever, and `s` to its end; `12` has no priority 1 in the second context
more-any : goes_on_more office both_contexts (codes "12") ≡ true
unfolding goes_on_more name_cmp
more-any = refl

more-begins : goes_on_more office (1 ∷ []) (codes "-") ≡ true
unfolding goes_on_more name_cmp
more-begins = refl

more-ended : goes_on_more office (1 ∷ []) (codes "s") ≡ false
unfolding goes_on_more name_cmp
more-ended = refl

more-no_priority_1 : goes_on_more office (1 ∷ []) (codes "1") ≡ false
unfolding goes_on_more name_cmp
more-no_priority_1 = refl

-- a class without members is waited for, although no ending has a member of it: so the law requires names that are meanings of texts
more-no_member : goes_on_more doubled_plan (1 ∷ []) [] ≡ true
unfolding goes_on_more name_cmp
more-no_member = refl
