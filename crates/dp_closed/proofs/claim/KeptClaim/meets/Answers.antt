use Rattle.std.proofs.Common.{List, ℕ, sym, subst}
use Rattle.dp_closed.specs.Claimed.{kept_claim}
use Rattle.dp_closed.specs.Shown.{shown_duty}
use Rattle.dp_closed.specs.declared.duty.KeptDuty.{KeptDuty}
use Rattle.dp_pieces.specs.Bytes.{Bytes, IsPart}
use Rattle.dp_pieces.specs.Sets.{set_by}
use Rattle.dp_pieces.specs.Tables.{names_in}
use Rattle.dp_reach.specs.Bounds.{Meets}
use Rattle.dp_closed.proofs.claim.KeptClaim.meets.Goals as goal

pub returns-in-Holds : goal.returns-in-Holds
returns-in-Holds c = λ yes settings are.
    subst (λ (duty : KeptDuty). Meets (kept_claim c.args.self settings) (shown_duty duty)) (sym c.in-Holds.is)
    (subst (λ (name : List ℕ). IsPart (set_by c.in-Holds.set) ((names_in c.args.self.names.now).bytes name)) c.deref-in-Holds.ensures.value (c.has.ensures yes))

pub returns-in-HoldsAll : goal.returns-in-HoldsAll
returns-in-HoldsAll c = λ yes settings are.
    subst (λ (duty : KeptDuty). Meets (kept_claim c.args.self settings) (shown_duty duty)) (sym c.in-HoldsAll.is) (c.has_everywhere.ensures yes)

pub returns-in-Calls : goal.returns-in-Calls
returns-in-Calls c = λ yes settings are.
    subst (λ (duty : KeptDuty). Meets (kept_claim c.args.self settings) (shown_duty duty)) (sym c.in-Calls.is)
    (subst (λ (bytes : Bytes). IsPart (set_by c.in-Calls.set) bytes) c.caller.ensures (c.is_part.ensures.part yes))
