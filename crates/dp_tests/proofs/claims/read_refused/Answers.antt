use Rattle.std.proofs.Common.{◌≡◌, ℕ, ◌≤◌, List, [], ◌∷◌, Option, None, Bor, length, map, refl, arith}
use Rattle.dp_tests.specs.Expectations.{refused_claim}
use Rattle.dp_tests.specs.declared.expectation.LineClaim.{LineClaim}
use Rattle.dp_tests.proofs.claims.read_refused.Goals as goal

-- two or more words name no refusal
too_many : (words : List (Bor (List ℕ))) → 2 ≤ length words → ◌≡◌ {A = Option LineClaim} None (refused_claim (map (λ word. word.now) words))
too_many [] many = absurd (omega (arith, many))
too_many (word ∷ []) many = absurd (omega (arith, many))
too_many (word ∷ other ∷ words) many = refl

pub returns-in_default : goal.returns-in_default
returns-in_default c = too_many c.args.words.now (omega (arith, c.in_default.len_at_least))
