-- Calls that come into a reach.
use Rattle.std.proofs.Common.{List, map}
use Rattle.std.specs.Global.{Vec}
use Rattle.std.specs.List.{AllByRecursion}
use Rattle.std.specs.Prelude.{ℕ, Bool, true}
use Rattle.dp_app.specs.Lawful.{IsLawful}
use Rattle.dp_app.specs.Rows.{Rows, with_functions}
use Rattle.dp_app.specs.declared.touch.Touch.{Touch}
use Rattle.dp_closed.specs.Answers.{shown_outside}
use Rattle.dp_closed.specs.Claimed.{kept_claim}
use Rattle.dp_closed.specs.Reach.{areas_in}
use Rattle.dp_closed.specs.Steps.{IsEntered}
use Rattle.dp_closed.specs.declared.audit.Audit.{Audit}
use Rattle.dp_closed.specs.declared.claim.KeptClaim.{KeptClaim}
use Rattle.dp_plan.specs.declared.entry.EntryId.{EntryId}
use Rattle.dp_queue.specs.declared.settings.Settings.{Settings}
use Rattle.dp_reach.specs.Areas.{Includes}
use Rattle.dp_reach.specs.Audits.{RunsOnly, entrance}
use Rattle.dp_reach.specs.Bounds.{AreBounded, Obligations}
use Rattle.dp_reach.specs.Closed.{IsClosed}
use Rattle.dp_reach.proofs.AuditLemmas.{runs-only}

-- each call that comes in at one of these contexts is in the reach of all
abbrev pub IsCallIn : Audit → List ℕ → Type 0
IsCallIn audit name = Includes audit.wide.plan.now (areas_in audit.wide.plan.now.contexts audit.wide.reach.now.shapes.items) (entrance (shown_outside audit.outside.now) name)

abbrev pub AreCallsIn : Audit → List (Vec ℕ) → Type 0
AreCallsIn audit names = AllByRecursion (IsCallIn audit) (map (λ (name : Vec ℕ). name.items) names)

-- the claim of the calls that come in at the context
abbrev pub narrow_of : Audit → KeptClaim
narrow_of audit = record { plan = audit.wide.plan; names = audit.wide.names; reach = audit.reach; ways = audit.wide.ways }

-- a closed audit is right about every run over the table
pub runs-entered : (touches : List ℕ → Touch) (rows : Rows) → IsLawful touches rows → (owing : Obligations) → AreBounded owing.duties rows
    → (audit : Audit) (settings : List Settings) (answers : EntryId → Bool) → IsEntered owing audit
    → IsClosed owing (kept_claim audit.wide settings) (λ id. true) → IsClosed owing (kept_claim (narrow_of audit) settings) answers
    → RunsOnly (with_functions rows owing.functions) (shown_outside audit.outside.now) audit.context.now audit.wide.plan.now settings answers
runs-entered touches rows lawful owing bounded audit settings answers entered all own =
    runs-only touches rows lawful owing bounded (shown_outside audit.outside.now) audit.context.now (kept_claim audit.wide settings) (λ id. true)
    (areas_in audit.wide.plan.now.contexts audit.reach.now.shapes.items) answers
    (record {
      all = all;
      own = own;
      calls = entered.calls;
      call = entered.call;
      caller = entered.held.caller;
      facts = entered.held.facts;
      stated = entered.held.stated;
      globals = entered.globals;
    })
