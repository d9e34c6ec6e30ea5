-- Where calls go from entries of dialplans, and where they reach the same entry again, computed from the definitions themselves.
use Rattle.std.proofs.Common.{◌≡◌, ℕ, Bool, ◌||◌, List, [], ◌∷◌, None, Some, refl}
use Rattle.std.specs.Prelude.{codes, nat_eq}
use Rattle.std.specs.Cmp.Lexicographic.{pointwise}
use Rattle.dp_conf.specs.Levels.{parts_of}
use Rattle.dp_lookup.specs.FoundEntry.{found_entry, found_label}
use Rattle.dp_lookup.specs.SearchOrder.{visit}
use Rattle.dp_pattern.specs.Name.{Meaning, Plain, Pattern}
use Rattle.dp_pattern.specs.Order.{name_cmp}
use Rattle.dp_pattern.specs.declared.tail.Tail.TheVariants.{Bang}
use Rattle.dp_plan.specs.Plan.{PlanOf}
use Rattle.dp_plan.specs.declared.entry.Entry.{Entry}
use Rattle.dp_vars.specs.Openings.{has_opening}
use Rattle.dp_audit.specs.Loops.{after, successor}
use Rattle.dp_audit.proofs.cases.Plans.{plan_of, context_of, runs, id_of}

-- a call goes on after `NoOp` and `Answer`
abbrev is_onward : List ℕ → Bool
is_onward name = pointwise nat_eq (codes "NoOp") name || pointwise nat_eq (codes "Answer") name

abbrev start : Meaning
start = Plain (codes "s")

abbrev no_op : Meaning → ℕ → Entry
no_op name priority = runs name priority (codes "NoOp") []

abbrev goto : Meaning → ℕ → List ℕ → Entry
goto name priority target = runs name priority (codes "Goto") target

abbrev one_context : List Entry → PlanOf
one_context entries = plan_of (context_of (codes "a") entries [] ∷ [])

-- it jumps to itself
itself : successor is_onward (one_context (goto start 1 (codes "1") ∷ [])) (id_of 0 0) ≡ Some (id_of 0 0)
unfolding visit found_entry name_cmp parts_of has_opening
itself = refl

-- it answers, and begins again: two steps lead back to each
again : after (successor is_onward (one_context (runs start 1 (codes "Answer") [] ∷ goto start 2 (codes "s,1") ∷ []))) 2 (id_of 0 0) ≡ Some (id_of 0 0)
unfolding visit found_entry name_cmp parts_of has_opening
again = refl

-- through a label
by_label : after (successor is_onward (one_context (record (no_op start 1) { label = Some (codes "top") } ∷ goto start 2 (codes "top") ∷ []))) 2 (id_of 0 1) ≡ Some (id_of 0 1)
unfolding visit found_entry found_label name_cmp parts_of has_opening
by_label = refl

-- two contexts jump to each other
abbrev two : PlanOf
two = plan_of (context_of (codes "a") (goto start 1 (codes "b,s,1") ∷ []) [] ∷ context_of (codes "b") (no_op start 1 ∷ goto start 2 (codes "a,s,1") ∷ []) [] ∷ [])

over_two : after (successor is_onward two) 3 (id_of 0 0) ≡ Some (id_of 0 0)
unfolding visit found_entry name_cmp parts_of has_opening
over_two = refl

-- an application that may wait
waiting : successor is_onward (one_context (runs start 1 (codes "WaitExten") [] ∷ goto start 2 (codes "1") ∷ [])) (id_of 0 0) ≡ None
unfolding visit found_entry name_cmp parts_of has_opening
waiting = refl

-- a target that is computed
computed : successor is_onward (one_context (goto start 1 (codes "${X},1") ∷ [])) (id_of 0 0) ≡ None
unfolding visit found_entry name_cmp parts_of has_opening
computed = refl

-- a target that leads nowhere, and the last priority
nowhere : successor is_onward (one_context (goto start 1 (codes "9") ∷ [])) (id_of 0 0) ≡ None
unfolding visit found_entry name_cmp parts_of has_opening
nowhere = refl

last : successor is_onward (one_context (no_op start 1 ∷ [])) (id_of 0 0) ≡ None
unfolding visit found_entry name_cmp parts_of has_opening
last = refl

-- a target in an included context is not at home, and neither is one of a pattern
included : successor is_onward (plan_of (context_of (codes "a") (goto start 1 (codes "1,1") ∷ []) (codes "b" ∷ [])
    ∷ context_of (codes "b") (goto (Plain (codes "1")) 1 (codes "a,s,1") ∷ []) [] ∷ [])) (id_of 0 0) ≡ None
unfolding visit found_entry name_cmp parts_of has_opening
included = refl

of_pattern : successor is_onward (one_context (no_op start 1 ∷ goto (Pattern [] Bang) 2 (codes "s,1") ∷ [])) (id_of 0 0) ≡ None
unfolding visit found_entry name_cmp parts_of has_opening
of_pattern = refl

-- `GotoIf` depends on its condition
choice : successor is_onward (one_context (runs start 1 (codes "GotoIf") (codes "1?1") ∷ [])) (id_of 0 0) ≡ None
unfolding visit found_entry name_cmp parts_of has_opening
choice = refl
