-- What is written about the differences between two dialplans.
use Rattle.std.specs.Prelude.{◌≡◌, ℕ, List, [], ◌∷◌, Option, None, Result, Ok, Err}
use Rattle.std.specs.Io.KnownBytes.{Appends}
use Rattle.dp_conf.specs.Answers.{Answers, ◌>>=◌}
use Rattle.dp_conf.specs.Fronts.{AppendsFront}
use Rattle.dp_plan.specs.Loaded.{plan_and_notes}
use Rattle.dp_plan.specs.Plan.{PlanOf}
use Rattle.dp_commands.specs.Faults.{reason_of}
use Rattle.dp_commands.specs.Run.{plan_fault}
use Rattle.dp_commands.specs.declared.fault.Code.TheVariants.{WriteFailed}
use Rattle.dp_commands.specs.declared.fault.PbxFault.{PbxFault}
use Rattle.dp_commands.specs.declared.fault.PbxFault.TheVariants.{Coded, NoMemory}
use Rattle.dp_diff.specs.Differences.{Difference, differences}
use Rattle.dp_diff.specs.Printing.{text_of}
use Rattle.dp_program.specs.Faulted.{PlaceOf, StandsIn, in_none, place_of_report, without_place}
use Rattle.dp_program.specs.Files.{Reads, ByteSource}
use Rattle.dp_program.specs.declared.fault_places.Faulted.{Faulted}

-- the dialplan that a text holds, or the text's fault
abbrev pub plan_in : List ℕ → Result PlanOf PbxFault
plan_in text = plan_fault (plan_and_notes text) >>= λ read. Ok read.0

-- the dialplan of a file, given the result of reading it
abbrev pub plan_read : Result (List ℕ) PbxFault → Result PlanOf PbxFault
plan_read text = text >>= plan_in

-- the dialplans before and after a change, or the first fault
abbrev pub both_plans : Result PlanOf PbxFault → Result PlanOf PbxFault → Result (PlanOf × PlanOf) PbxFault
both_plans before after = before >>= λ before. after >>= λ after. Ok (before, after)

-- the first place if the first dialplan was not loaded, else the second place
abbrev pub first_place : Result PlanOf PbxFault → PlaceOf → PlaceOf → PlaceOf
first_place (Ok plan) first second = second
first_place (Err fault) first second = first

-- the place of a fault, given the paths of two dialplans and the results of reading them: the first of them that was not loaded
abbrev pub place_of_diff : List ℕ → List ℕ → Result (List ℕ) PbxFault → Result (List ℕ) PbxFault → PbxFault → PlaceOf
place_of_diff before_path after_path before after fault =
    first_place (plan_read before) (place_of_report before_path before fault)
    (first_place (plan_read after) (place_of_report after_path after fault) in_none)

-- the status: 1 if there is a difference
abbrev pub status_of : List Difference → ℕ
status_of [] = 0
status_of (difference ∷ differences) = 1

-- the output and result, given both dialplans or the first fault: all differences or, if a write fails, a prefix of them
abbrev pub WritesDiff : Option (List ℕ) → Option (List ℕ) → Result (PlanOf × PlanOf) PbxFault → Result ℕ PbxFault → Type 0
WritesDiff old new (Ok plans) (Ok status) =
    Appends old new (text_of (differences plans.0 plans.1)) × (status ≡ status_of (differences plans.0 plans.1))
WritesDiff old new (Ok plans) (Err (Coded code line)) =
    AppendsFront old new (text_of (differences plans.0 plans.1)) × (code ≡ WriteFailed) × (line ≡ None)
WritesDiff old new (Ok plans) (Err NoMemory) = AppendsFront old new (text_of (differences plans.0 plans.1))
WritesDiff old new (Err fault) (Ok status) = ⊥
WritesDiff old new (Err fault) (Err (Coded code line)) = Appends old new [] × (fault ≡ Coded code line)
WritesDiff old new (Err fault) (Err NoMemory) = Appends old new []

-- the result for both dialplans or the first fault, given the results of reading the files at two paths, with the place of the fault
abbrev pub OnBothOf : {X : Type 0} → (Result (PlanOf × PlanOf) PbxFault → Result X PbxFault → Type 0) → List ℕ → List ℕ → Result X Faulted → Result (List ℕ) PbxFault → Result (List ℕ) PbxFault → Type 0
OnBothOf Holds before_path after_path answered before after =
    Holds (both_plans (plan_read before) (plan_read after)) (without_place answered)
    × StandsIn (place_of_diff before_path after_path before after) answered

-- the same for the dialplans of the files at two paths
abbrev pub OnBoth : {X : Type 0} → (Result (PlanOf × PlanOf) PbxFault → Result X PbxFault → Type 0) → (List ℕ → ByteSource) → List ℕ → List ℕ → Result X Faulted → Type 0
OnBoth Holds files before_path after_path answered =
    Reads (files before_path) (λ before. Reads (files after_path) (OnBothOf Holds before_path after_path answered before))

-- the output and result for the dialplans of the files at two paths
abbrev pub DiffsFiles : (List ℕ → ByteSource) → List ℕ → List ℕ → Option (List ℕ) → Option (List ℕ) → Result ℕ Faulted → Type 0
DiffsFiles files before_path after_path old new answered = OnBoth (WritesDiff old new) files before_path after_path answered

-- a dialplan was loaded from the file at a path, given the result of reading the file; or it is the fault, in its place
abbrev pub LoadsFrom : List ℕ → Result PlanOf Faulted → Result (List ℕ) PbxFault → Type 0
LoadsFrom path loaded text =
    Answers (λ plan. plan) reason_of (without_place loaded) (plan_read text) × StandsIn (place_of_report path text) loaded
