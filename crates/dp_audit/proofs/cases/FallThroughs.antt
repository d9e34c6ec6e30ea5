-- After which entries of dialplans a call goes on in another extension, computed from the definition itself.
use Rattle.std.proofs.Common.{◌≡◌, ℕ, ◌-◌, ◌^◌, List, [], ◌∷◌, refl}
use Rattle.std.specs.Prelude.{codes}
use Rattle.dp_lookup.specs.FoundEntry.{found_entry}
use Rattle.dp_lookup.specs.SearchOrder.{visit}
use Rattle.dp_pattern.specs.Name.{Meaning, Plain, Pattern}
use Rattle.dp_pattern.specs.Order.{name_cmp}
use Rattle.dp_pattern.specs.Spelling.{spelling}
use Rattle.dp_pattern.specs.declared.tail.Tail.TheVariants.{End, Dot, Bang}
use Rattle.dp_plan.specs.Plan.{PlanOf}
use Rattle.dp_plan.specs.declared.entry.Entry.{Entry}
use Rattle.dp_audit.specs.FallThroughs.{fall_through, fall_throughs_of}
use Rattle.dp_audit.proofs.cases.Plans.{plan_of, context_of, runs, id_of}

abbrev x : List ℕ
x = codes "0123456789"

-- the names `100`, `200`, `s`, `_X.`, `_1XX`, `_100` and `_!`
abbrev plain_100 : Meaning
plain_100 = Plain (codes "100")

abbrev plain_200 : Meaning
plain_200 = Plain (codes "200")

abbrev start : Meaning
start = Plain (codes "s")

abbrev all_digits : Meaning
all_digits = Pattern (x ∷ []) Dot

abbrev one_hundred : Meaning
one_hundred = Pattern (codes "1" ∷ x ∷ x ∷ []) End

abbrev pattern_100 : Meaning
pattern_100 = Pattern (codes "1" ∷ codes "0" ∷ codes "0" ∷ []) End

abbrev anything : Meaning
anything = Pattern [] Bang

abbrev at : Meaning → ℕ → Entry
at name priority = runs name priority (codes "NoOp") []

abbrev one_context : List Entry → PlanOf
one_context entries = plan_of (context_of (codes "a") entries [] ∷ [])

-- `a` includes `b`
abbrev with_include : List Entry → List Entry → PlanOf
with_include entries included = plan_of (context_of (codes "a") entries (codes "b" ∷ []) ∷ context_of (codes "b") included [] ∷ [])

-- the trap: `100` ends after 2, and `_X.` has a third priority
trap : fall_throughs_of (one_context (at plain_100 1 ∷ at plain_100 2 ∷ at all_digits 1 ∷ at all_digits 2 ∷ at all_digits 3 ∷ []))
    ≡ fall_through (id_of 0 1) (id_of 0 4) ∷ []
unfolding fall_throughs_of visit found_entry name_cmp spelling
trap = refl

-- both end together
own_goes_on : fall_throughs_of (one_context (at plain_100 1 ∷ at plain_100 2 ∷ at all_digits 1 ∷ at all_digits 2 ∷ [])) ≡ []
unfolding fall_throughs_of visit found_entry name_cmp spelling
own_goes_on = refl

-- the last priority of all, and the greatest one
last_of_all : fall_throughs_of (one_context (at plain_100 1 ∷ at start (2 ^ 31 - 1) ∷ [])) ≡ []
unfolding fall_throughs_of visit found_entry name_cmp spelling
last_of_all = refl

-- an included context has the next priority, for a pattern
included_pattern : fall_throughs_of (with_include (at plain_100 1 ∷ []) (at all_digits 2 ∷ [])) ≡ fall_through (id_of 0 0) (id_of 1 0) ∷ []
unfolding fall_throughs_of visit found_entry name_cmp spelling
included_pattern = refl

-- an included context has the next priority, for the same name
included_name : fall_throughs_of (with_include (at plain_100 1 ∷ []) (at plain_100 2 ∷ [])) ≡ []
unfolding fall_throughs_of visit found_entry name_cmp spelling
included_name = refl

-- the same, and a pattern of the context itself comes before it
pattern_before_included : fall_throughs_of (with_include (at plain_100 1 ∷ at all_digits 2 ∷ []) (at plain_100 2 ∷ [])) ≡ fall_through (id_of 0 0) (id_of 0 1) ∷ []
unfolding fall_throughs_of visit found_entry name_cmp spelling
pattern_before_included = refl

-- `_100` is a pattern, and so another name
pattern_of_one_text : fall_throughs_of (one_context (at plain_100 1 ∷ at pattern_100 2 ∷ [])) ≡ fall_through (id_of 0 0) (id_of 0 1) ∷ []
unfolding fall_throughs_of visit found_entry name_cmp spelling
pattern_of_one_text = refl

-- a missing priority in the middle of `100`
middle : fall_throughs_of (one_context (at plain_100 1 ∷ at plain_100 3 ∷ at all_digits 2 ∷ [])) ≡ fall_through (id_of 0 0) (id_of 0 2) ∷ []
unfolding fall_throughs_of visit found_entry name_cmp spelling
middle = refl

-- of two patterns the more specific one is met
more_specific : fall_throughs_of (one_context (at plain_100 1 ∷ at all_digits 2 ∷ at one_hundred 2 ∷ [])) ≡ fall_through (id_of 0 0) (id_of 0 2) ∷ []
unfolding fall_throughs_of visit found_entry name_cmp spelling
more_specific = refl

-- a pattern that goes on in a looser one is not reported
patterns : fall_throughs_of (one_context (at one_hundred 1 ∷ at all_digits 2 ∷ [])) ≡ []
unfolding fall_throughs_of visit found_entry name_cmp spelling
patterns = refl

-- `_X.` does not match `s`, and `_!` does
letters : fall_throughs_of (one_context (at start 1 ∷ at all_digits 2 ∷ [])) ≡ []
unfolding fall_throughs_of visit found_entry name_cmp spelling
letters = refl

letters_by_anything : fall_throughs_of (one_context (at start 1 ∷ at anything 2 ∷ [])) ≡ fall_through (id_of 0 0) (id_of 0 1) ∷ []
unfolding fall_throughs_of visit found_entry name_cmp spelling
letters_by_anything = refl

-- the run of a call that comes in at an including context is not reported for the included one
from_outside : fall_throughs_of (with_include (at all_digits 2 ∷ []) (at plain_100 1 ∷ [])) ≡ []
unfolding fall_throughs_of visit found_entry name_cmp spelling
from_outside = refl

-- they are reported in the order of the file, and not of their names
file_order : fall_throughs_of (one_context (at plain_200 1 ∷ at plain_100 1 ∷ at all_digits 2 ∷ []))
    ≡ fall_through (id_of 0 0) (id_of 0 2) ∷ fall_through (id_of 0 1) (id_of 0 2) ∷ []
unfolding fall_throughs_of visit found_entry name_cmp spelling
file_order = refl

-- contexts that include each other: each is looked up from its own
each_other : fall_throughs_of (plan_of (
    context_of (codes "a") (at plain_100 1 ∷ []) (codes "b" ∷ [])
    ∷ context_of (codes "b") (at all_digits 2 ∷ at plain_200 1 ∷ []) (codes "a" ∷ codes "nowhere" ∷ []) ∷ []))
    ≡ fall_through (id_of 0 0) (id_of 1 0) ∷ fall_through (id_of 1 1) (id_of 1 0) ∷ []
unfolding fall_throughs_of visit found_entry name_cmp spelling
each_other = refl
