-- A turn that is taken several times.
use Rattle.std.proofs.Common.{◌≡◌, ℕ, suc, ◌+◌, ◌-◌, ◌<◌, fold, replicate, ap, arith}
use Rattle.dp_wide_runs.specs.declared.wide_turn.WideTurn.{WideTurn}
use Rattle.dp_test_runs.specs.Courses.{after_turn}
use Rattle.dp_test_runs.specs.declared.course.Course.{Course}

-- the turns that are left begin with one of them
pub folded_more : (count taken : ℕ) (turn : WideTurn) (course : Course) → taken < count
    → fold after_turn course (replicate (count - taken) turn) ≡ fold after_turn (after_turn course turn) (replicate (count - (taken + 1)) turn)
folded_more count taken turn course more =
    let again : count - taken ≡ suc (count - (taken + 1)) = omega (arith, more) in
    ap (λ (n : ℕ). fold after_turn course (replicate n turn)) again
