-- What a call reaches in two dialplans, before and after a change.
use Rattle.std.proofs.Common.{◌≡◌, ◌-◌, ◌^◌, ◌==◌, ℕ, Bool, List, Option, Ok, Err, min, inl, inr, arith}
use Rattle.std.proofs.KnownBytes.{Appends-nil}
use Rattle.std.proofs.lemmas.Bool.Decides.{nat_tests}
use Rattle.dp_app.specs.Rows.{Meanings}
use Rattle.dp_commands.specs.declared.fault.PbxFault.{PbxFault}
use Rattle.dp_commands.specs.declared.fault.PbxFault.TheVariants.{Coded, NoMemory}
use Rattle.dp_plan.specs.Plan.{PlanOf}
use Rattle.dp_program.specs.ReachDiffs.{AreReachedBoth, ReachChanges, ReachedOf, WritesChanges, asked_of}
use Rattle.dp_program.specs.Requests.{ReachDiffOf}

-- a number is zero if it is so up to a limit
pub zero_up_to_limit : (n : ℕ) → (min n (2 ^ 64 - 1) == 0) ≡ (n == 0)
zero_up_to_limit n = grind (arith, nat_tests)

-- memory runs out before anything is written
pub changes_nothing : (meanings : Meanings) (question : ReachDiffOf) (explains : Bool) (old : Option (List ℕ)) (plans : PlanOf × PlanOf)
    → ReachChanges meanings question explains (Ok plans) old old (Err NoMemory)
changes_nothing meanings question explains old plans = inl (Appends-nil old)

-- a write fails, or memory runs out after a part is written
pub changes_front : (meanings : Meanings) (question : ReachDiffOf) (explains : Bool) (old new : Option (List ℕ)) (plans : PlanOf × PlanOf) (reached : ReachedOf) (fault : PbxFault)
    → AreReachedBoth meanings plans (asked_of question) reached → WritesChanges old new plans reached (Err fault) → ReachChanges meanings question explains (Ok plans) old new (Err fault)
changes_front meanings question explains old new plans reached (Coded code line) right writes = (record { reached = reached; right = right; written = writes.0 }, writes.1, writes.2)
changes_front meanings question explains old new plans reached NoMemory right writes = inr (record { reached = reached; right = right; written = writes })
