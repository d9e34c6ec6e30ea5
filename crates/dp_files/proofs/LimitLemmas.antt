-- Numbers above the greatest of 64 bits are above the greatest priority, so it makes no difference where they are capped.
use Rattle.std.proofs.Common.{◌≡◌, ℕ, Bool, true, false, ◌==◌, nat_le, refl, ap, ◌∙◌, arith, min, ◌-◌, ◌^◌}
use Rattle.std.proofs.lemmas.Bool.Decides.{nat_tests}
use Rattle.dp_conf.specs.Numbers.{most_priority}
use Rattle.dp_files.specs.Priorities.{within_limit, number_base}

-- the limit is the same for a number and for the number capped to 64 bits
pub within_limit_capped : (number : ℕ) → within_limit (min number (2 ^ 64 - 1)) ≡ within_limit number
within_limit_capped number = by (nat_le number (2 ^ 64 - 1)) refl
  where
    by : (t : Bool) → nat_le number (2 ^ 64 - 1) ≡ t → within_limit (min number (2 ^ 64 - 1)) ≡ within_limit number
    by true within =
        let same : min number (2 ^ 64 - 1) ≡ number = grind (arith, nat_tests) in
        ap within_limit same
    by false within =
        let most : min number (2 ^ 64 - 1) ≡ 2 ^ 64 - 1 = grind (arith, nat_tests) in
        let great : nat_le number most_priority ≡ false = grind (arith, nat_tests) in
        ap within_limit most ∙ cc

-- and so is the base that is a number
pub number_base_capped : (number : ℕ) → number_base (min number (2 ^ 64 - 1)) ≡ number_base number
number_base_capped number =
    let zero : (min number (2 ^ 64 - 1) == 0) ≡ (number == 0) = grind (arith, nat_tests) in
    rw zero (rw (within_limit_capped number) refl)
