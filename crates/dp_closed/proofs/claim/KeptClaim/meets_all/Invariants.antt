use Rattle.std.proofs.Common.{◌≡◌, ℕ, ◌<◌, List, Some, slice_get}
use Rattle.dp_closed.specs.Claimed.{AreWays, kept_claim}
use Rattle.dp_closed.specs.Shown.{shown_duty}
use Rattle.dp_closed.specs.declared.duty.KeptDuty.{KeptDuty}
use Rattle.dp_queue.specs.declared.settings.Settings.{Settings}
use Rattle.dp_reach.specs.Bounds.{Meets}
use Rattle.dp_closed.proofs.claim.KeptClaim.meets_all.Given as goal

abbrev pub invariant-loop-duty : goal.invariant-loop-duty
invariant-loop-duty l = (k : ℕ) (duty : KeptDuty) → k < l.duty-index → slice_get l.duties k ≡ Some duty
    → (settings : List Settings) → AreWays settings l.self.ways.now → Meets (kept_claim l.self settings) (shown_duty duty)
