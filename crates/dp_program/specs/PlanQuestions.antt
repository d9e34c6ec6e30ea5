-- Questions on a dialplan and its queues, which are read with the files that they include.
use Rattle.std.specs.Prelude.{ℕ, List, Option, Some, None, Result}
use Rattle.dp_program.specs.Dialplans.{PlanTextOf, ReadsDialplan, with_text}
use Rattle.dp_program.specs.Files.{ByteSource}
use Rattle.dp_program.specs.QueueTexts.{ReadsQueues}
use Rattle.dp_program.specs.declared.dialplans.PlanUse.{PlanUse}
use Rattle.dp_program.specs.declared.dialplans.PlanUse.TheVariants.{Report}
use Rattle.dp_program.specs.declared.fault_places.Faulted.{Faulted}
use Rattle.dp_program.specs.declared.hints.ServedRequest.{ServedRequest}

-- the output and result of a question, given the files, and the contents of the output before and after
abbrev pub Serving : Type 1
Serving = (List ℕ → ByteSource) → Option (List ℕ) → Option (List ℕ) → Result ServedRequest Faulted → Type 0

-- the same, given the text of the dialplan at a path
abbrev pub OverPlan : Serving → (List ℕ → ByteSource) → List ℕ → Option (List ℕ) → Option (List ℕ) → PlanTextOf → Result ServedRequest Faulted → Type 0
OverPlan serves files path old new plan answered = serves (with_text files path plan.text) old new answered

-- the same, given the path of the queues, which are read with the files that they include
abbrev pub AfterQueues : Serving → (List ℕ → ByteSource) → List ℕ → Option (List ℕ) → Option (List ℕ) → PlanTextOf → List ℕ → Result ServedRequest Faulted → Type 0
AfterQueues serves files path old new plan queues answered =
    ReadsQueues files queues (λ files. OverPlan serves files path old new plan) old new answered

-- the same, given the path of the queues, if there are some
abbrev pub WithQueues : Serving → (List ℕ → ByteSource) → List ℕ → Option (List ℕ) → Option (List ℕ) → PlanTextOf → Option (List ℕ) → Result ServedRequest Faulted → Type 0
WithQueues serves files path old new plan None answered = OverPlan serves files path old new plan answered
WithQueues serves files path old new plan (Some queues) answered = AfterQueues serves files path old new plan queues answered

-- the same for the dialplan at a path and the files that it includes, given what it is read for and the word of `--clock`
abbrev pub OverIncluded : Serving → PlanUse → Option (List ℕ) → (List ℕ → ByteSource) → List ℕ → Option (List ℕ) → Option (List ℕ) → Option (List ℕ) → Result ServedRequest Faulted → Type 0
OverIncluded serves purpose clock files path queues old new answered =
    ReadsDialplan purpose clock files path (λ plan. WithQueues serves files path old new plan queues) old new answered

-- the same for a question on files in which the second of two dialplans, at this path, has the text that is made from its file and from
-- those that it includes
abbrev pub OverMadePlan : Serving → Option (List ℕ) → List ℕ → Serving
OverMadePlan serves clock after files old new answered = OverIncluded serves Report clock files after None old new answered

-- the same for both dialplans, before and after a change: the one before it is read first
abbrev pub OverBothIncluded : Serving → Option (List ℕ) → (List ℕ → ByteSource) → List ℕ → List ℕ → Option (List ℕ) → Option (List ℕ) → Result ServedRequest Faulted → Type 0
OverBothIncluded serves clock files before after old new answered =
    OverIncluded (OverMadePlan serves clock after) Report clock files before None old new answered
