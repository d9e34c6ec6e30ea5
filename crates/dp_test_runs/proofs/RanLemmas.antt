-- The calls inside that of an entry, one by one.
use Rattle.std.proofs.Common.{◌≡◌, ℕ, zero, suc, ◌+◌, ◌-◌, ◌≤◌, ◌<◌, List, [], ◌∷◌, map, Option, Some, None, ap, refl, ◌∙◌, arith}
use Rattle.dp_test_runs.specs.Ran.{call_and, call_in, calls_within, side_ran, sides_within}
use Rattle.dp_test_runs.specs.declared.ran_entries.RanEntry.{RanEntry}

calls-none : (left : ℕ) (call : List ℕ × List ℕ) → call_in call ≡ None → calls_within left call ≡ []
calls-none zero call none = refl
calls-none (suc left) call none = ap (λ (found : Option (List ℕ × List ℕ)). call_and found (calls_within left)) none

-- a call runs nothing in turn
pub sides_none : (left : ℕ) (ran : RanEntry) (call : List ℕ × List ℕ) → call_in call ≡ None → sides_within left ran call ≡ []
unfolding sides_within
sides_none left ran call none = ap (map (side_ran ran)) (calls-none left call none)

-- a call runs another one
pub sides_more : (left taken : ℕ) (ran : RanEntry) (call inner : List ℕ × List ℕ) → taken < left → call_in call ≡ Some inner
    → sides_within (left - taken) ran call ≡ side_ran ran inner ∷ sides_within (left - (taken + 1)) ran inner
unfolding sides_within
sides_more left taken ran call inner more found =
    let again : left - taken ≡ suc (left - (taken + 1)) = omega (arith, more) in
    ap (λ (n : ℕ). map (side_ran ran) (calls_within n call)) again
    ∙ ap (λ (next : Option (List ℕ × List ℕ)). map (side_ran ran) (call_and next (calls_within (left - (taken + 1))))) found

-- no more calls may run inside each other
pub sides_end : (left taken : ℕ) (ran : RanEntry) (call : List ℕ × List ℕ) → left ≤ taken → sides_within (left - taken) ran call ≡ []
unfolding sides_within
sides_end left taken ran call end =
    let none : left - taken ≡ 0 = omega (arith, end) in
    ap (λ (n : ℕ). map (side_ran ran) (calls_within n call)) none
