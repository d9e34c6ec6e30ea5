use Rattle.std.specs.Prelude.{◌≡◌, ℕ, ◌<◌, true, take}
use Rattle.dp_board.specs.steps.Presence.{is_marked, unmarked_in}
use Rattle.dp_board.proofs.presence.least_unmarked.Given as goal

abbrev pub invariant-loop-number : goal.invariant-loop-number
invariant-loop-number l = record {
  marked : (lower : ℕ) → lower < l.number → is_marked l.present lower ≡ true;
  none : unmarked_in (take l.number l.present) ≡ 0;
}
