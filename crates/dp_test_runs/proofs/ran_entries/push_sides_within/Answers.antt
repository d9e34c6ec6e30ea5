use Rattle.std.proofs.Common.{◌≡◌, ◌+◌, ◌-◌, ◌<◌, ◌≤◌, ℕ, List, [], ◌∷◌, ◌++◌, Some, None, ap, sym, ◌∙◌, append_assoc, append-nil, arith}
use Rattle.std.specs.Option.{option_map}
use Rattle.dp_test_runs.specs.Ran.{call_in, side_ran, sides_within}
use Rattle.dp_test_runs.specs.declared.ran_entries.RanEntry.{RanEntry}
use Rattle.dp_test_runs.proofs.RanLemmas.{sides_end, sides_more, sides_none}
use Rattle.dp_test_runs.proofs.ran_entries.push_sides_within.Goals as goal

-- a call is one of those that were left
pub loop-depth-preserved : goal.loop-depth-preserved
loop-depth-preserved c =
    let ran = c.args.ran.now in
    let call : List ℕ × List ℕ = (c.loop-depth.application.now, c.loop-depth.arguments.now) in
    let inner : List ℕ × List ℕ = (c.in-Some.inner.now, c.in-Some.given.now) in
    let taken = c.loop-depth._depth in
    let more : taken < c.args.left = omega (arith, c.loop-depth-test.true) in
    let found : call_in call ≡ Some inner = sym c.call_in.ensures ∙ ap (option_map (λ next. (next.0.now, next.1.now))) c.in-Some.is in
    let later : List RanEntry = sides_within (c.args.left - (taken + 1)) ran inner in
    ap (λ (sides : List RanEntry). sides ++ later) c.in_ok-push_side.ensures
    ∙ (append_assoc c.loop-depth.sides (side_ran ran inner ∷ []) later
    ∙ (ap (λ (sides : List RanEntry). c.loop-depth.sides ++ sides) (sym (sides_more c.args.left taken ran call inner more found))
    ∙ c.loop-depth.invariant))

-- there is no call to take
pub returns-in_default : goal.returns-in_default
returns-in_default c =
    let call : List ℕ × List ℕ = (c.loop-depth.application.now, c.loop-depth.arguments.now) in
    let rest = c.args.left - c.loop-depth._depth in
    let none : call_in call ≡ None = sym c.call_in.ensures ∙ ap (option_map (λ next. (next.0.now, next.1.now))) c.in_default.is in
    sym (append-nil c.loop-depth.sides)
    ∙ (ap (λ (sides : List RanEntry). c.loop-depth.sides ++ sides) (sym (sides_none rest c.args.ran.now call none)) ∙ c.loop-depth.invariant)

-- no more calls may run
pub returns : goal.returns
returns c =
    let call : List ℕ × List ℕ = (c.loop-depth.application.now, c.loop-depth.arguments.now) in
    let end : c.args.left ≤ c.loop-depth._depth = omega (arith, c.loop-depth-test.false) in
    sym (append-nil c.loop-depth.sides)
    ∙ (ap (λ (sides : List RanEntry). c.loop-depth.sides ++ sides) (sym (sides_end c.args.left c.loop-depth._depth c.args.ran.now call end))
    ∙ c.loop-depth.invariant)
