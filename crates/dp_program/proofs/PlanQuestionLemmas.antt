-- Memory runs out before a question on a dialplan and its queues is answered.
use Rattle.std.proofs.Common.{ℕ, List, Option, Some, None, Err}
use Rattle.dp_commands.specs.declared.fault.PbxFault.TheVariants.{NoMemory}
use Rattle.dp_program.specs.Dialplans.{PlanTextOf, with_text}
use Rattle.dp_program.specs.Faulted.{nowhere}
use Rattle.dp_program.specs.Files.{ByteSource}
use Rattle.dp_program.specs.PlanQuestions.{OverMadePlan, OverBothIncluded, OverIncluded, OverPlan, Serving, WithQueues}
use Rattle.dp_program.specs.declared.dialplans.PlanUse.{PlanUse}
use Rattle.dp_program.specs.declared.dialplans.PlanUse.TheVariants.{Report}
use Rattle.dp_program.proofs.DialplanLemmas.{dialplan_lacks}
use Rattle.dp_program.proofs.QueueLemmas.{queues_lack}

module _ (serves : Serving) (old : Option (List ℕ)) (lacks : (files : List ℕ → ByteSource) → serves files old old (Err (nowhere NoMemory))) where
  pub over_plan_lacks : (files : List ℕ → ByteSource) (path : List ℕ) (plan : PlanTextOf) → OverPlan serves files path old old plan (Err (nowhere NoMemory))
  over_plan_lacks files path plan = lacks (with_text files path plan.text)

  pub with_queues_lack : (files : List ℕ → ByteSource) (path : List ℕ) (plan : PlanTextOf) (queues : Option (List ℕ))
      → WithQueues serves files path old old plan queues (Err (nowhere NoMemory))
  with_queues_lack files path plan None = over_plan_lacks files path plan
  with_queues_lack files path plan (Some queues) =
      queues_lack files queues (λ files. OverPlan serves files path old old plan) old (λ files. over_plan_lacks files path plan)

  pub over_included_lacks : (purpose : PlanUse) (clock : Option (List ℕ)) (files : List ℕ → ByteSource) (path : List ℕ) (queues : Option (List ℕ))
      → OverIncluded serves purpose clock files path queues old old (Err (nowhere NoMemory))
  over_included_lacks purpose clock files path queues =
      dialplan_lacks (λ plan. WithQueues serves files path old old plan queues) path old (λ plan. with_queues_lack files path plan queues) purpose clock files

-- the same for a question on two dialplans
pub over_both_lacks : (serves : Serving) (old : Option (List ℕ)) (lacks : (files : List ℕ → ByteSource) → serves files old old (Err (nowhere NoMemory)))
    (clock : Option (List ℕ)) (files : List ℕ → ByteSource) (before after : List ℕ) → OverBothIncluded serves clock files before after old old (Err (nowhere NoMemory))
over_both_lacks serves old lacks clock files before after =
    over_included_lacks (OverMadePlan serves clock after) old (λ files. over_included_lacks serves old lacks Report clock files after None) Report clock files before
    None
