use Rattle.std.proofs.Common.{◌≡◌, ℕ, Bool, true, false, ◌&&◌, ◌||◌, eqb, List, [], ◌∷◌, refl, sym, rules, tests}
use Rattle.std.specs.List.{list_any}
use Rattle.dp_conf.specs.Cut.{begins_with}
use Rattle.dp_plan.specs.EntryLine.{has_variable}
use Rattle.dp_plan.proofs.naming.has_variable.Goals as goal

-- a text without a `$` has no variable
has_variable-none : (text : List ℕ) → list_any (λ b. eqb b 36) text ≡ false → has_variable text ≡ false
has_variable-none [] e = refl
has_variable-none (b ∷ text) e = by (eqb b 36) (has_variable-none text) e
  where
    by : (t : Bool) → (list_any (λ b. eqb b 36) text ≡ false → has_variable text ≡ false) → (t || list_any (λ b. eqb b 36) text) ≡ false → ((t && begins_with 123 text) || has_variable text) ≡ false
    by true later e = absurd cc
    by false later e = later e

pub returns-then-not-contains : goal.returns-then-not-contains
returns-then-not-contains c =
    let none : list_any (λ b. eqb b 36) c.args.text.now ≡ false = search (rules, tests) in
    sym (has_variable-none c.args.text.now none)
