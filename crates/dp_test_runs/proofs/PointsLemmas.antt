-- When a call that has succeeded once can fail, and how the next test begins.
use Rattle.std.proofs.Common.{◌≡◌, List, None, Result, Ok, Err, IsOk, is_ok, refl, sym, ap, subst, ◌∙◌}
use Rattle.std.specs.Option.{option_map}
use Rattle.dp_conf.specs.Answers.{Refuses, ◌>>=◌}
use Rattle.dp_plan.specs.Loaded.{plan_and_notes}
use Rattle.dp_plan.specs.Plan.{PlanOf}
use Rattle.dp_plan.specs.declared.note.Note.{Note}
use Rattle.dp_queue.specs.Queues.{QueuesOf}
use Rattle.dp_machine.specs.World.{World, opening_with}
use Rattle.dp_commands.specs.Faults.{reason_of}
use Rattle.dp_commands.specs.Run.{LoadedFilesOf, plan_fault, queues_of}
use Rattle.dp_commands.specs.declared.fault.PbxFault.{PbxFault}
use Rattle.dp_commands.specs.declared.fault.PbxFault.TheVariants.{Coded, NoMemory}
use Rattle.dp_wide.specs.Functions.{wide_functions}
use Rattle.dp_test_runs.specs.Points.{opening}
use Rattle.dp_test_runs.specs.Results.{opening_of}
use Rattle.dp_test_runs.specs.Tests.{beginning}
use Rattle.dp_test_runs.specs.declared.course.Course.{Course}
use Rattle.dp_test_runs.specs.declared.points.TestedFile.{TestedFile}
use Rattle.dp_test_runs.specs.steps.Reloads.{BeginWith}

-- texts that were read once are refused only if memory runs out
pub refused_memory : {Y : Type 0} (fault : PbxFault) (given : Result Y PbxFault) (read : Y) → given ≡ Ok read
    → Refuses (reason_of fault) given → reason_of fault ≡ None
refused_memory (Coded code line) given read is refuses = absurd cc
refused_memory NoMemory given read is refuses = refl

-- ---- the next test

-- a result's value
abbrev value_or : {Y E : Type 0} → Y → Result Y E → Y
value_or other (Ok value) = value
value_or other (Err fault) = other

same_value : {Y E : Type 0} (given : Result Y E) (x y : Y) → given ≡ Ok x → given ≡ Ok y → x ≡ y
same_value given x y one other = sym (ap (value_or x) one) ∙ ap (value_or x) other

-- the files of a dialplan and of queues that were read
abbrev files_by : Result (PlanOf × List Note) PbxFault → Result QueuesOf PbxFault → Result LoadedFilesOf PbxFault
files_by plan queues = plan >>= λ read. queues >>= λ held. Ok (record { plan = read.0; queues = held })

-- the world in which tests begin
abbrev world_by : Result LoadedFilesOf PbxFault → Result World PbxFault
world_by files = files >>= λ files. Ok (opening_with wide_functions files.plan files.queues)

over_by : (plan : Result (PlanOf × List Note) PbxFault) (queues : Result QueuesOf PbxFault) (held : QueuesOf) (in_force : PlanOf)
    → BeginWith (world_by (files_by plan queues)) in_force → queues ≡ Ok held → world_by (files_by plan queues) ≡ Ok (opening_with wide_functions in_force held)
over_by (Err fault) queues held in_force begin read = absurd begin
over_by (Ok plan) (Err fault) held in_force begin read = absurd begin
over_by (Ok plan) (Ok other) held in_force begin read =
    ap (λ p. Ok (opening_with wide_functions p other)) (sym begin) ∙ ap (λ q. Ok (opening_with wide_functions in_force q)) (same_value (Ok other) other held refl read)

-- with the dialplan that is in force there and the queues the world is as it was
pub begins_over : (tested : TestedFile) (held : QueuesOf) (in_force : PlanOf) → BeginWith (opening tested) in_force
    → queues_of (option_map (λ text. text.now) tested.texts.queues) ≡ Ok held → opening tested ≡ Ok (opening_with wide_functions in_force held)
unfolding opening opening_of
begins_over tested held in_force begin read =
    over_by (plan_fault (plan_and_notes tested.texts.plan.now)) (queues_of (option_map (λ text. text.now) tested.texts.queues)) held in_force begin read

memory_by : (fault : PbxFault) (plan : Result (PlanOf × List Note) PbxFault) (queues : Result QueuesOf PbxFault) (in_force : PlanOf)
    → BeginWith (world_by (files_by plan queues)) in_force → Refuses (reason_of fault) queues → reason_of fault ≡ None
memory_by fault (Err other) queues in_force begin refuses = absurd begin
memory_by fault (Ok plan) (Err other) in_force begin refuses = absurd begin
memory_by fault (Ok plan) (Ok held) in_force begin refuses = refused_memory fault (Ok held) held refl refuses

-- the queues of tests that begin in a world are refused only if memory runs out
pub queues_memory : (fault : PbxFault) (tested : TestedFile) (in_force : PlanOf) → BeginWith (opening tested) in_force
    → Refuses (reason_of fault) (queues_of (option_map (λ text. text.now) tested.texts.queues)) → reason_of fault ≡ None
unfolding opening opening_of
queues_memory fault tested in_force begin refuses =
    memory_by fault (plan_fault (plan_and_notes tested.texts.plan.now)) (queues_of (option_map (λ text. text.now) tested.texts.queues)) in_force begin refuses

-- and so are all texts
pub anew_memory : (fault : PbxFault) (given : Result World PbxFault) → IsOk given → Refuses (reason_of fault) given → reason_of fault ≡ None
anew_memory fault (Ok w) read refuses = refused_memory fault (Ok w) w refl refuses
anew_memory fault (Err other) read refuses = absurd cc

-- tests that begin in a world can begin again
pub begins_ok : (given : Result World PbxFault) (w : World) → given ≡ Ok w → IsOk given
begins_ok given w is = ap is_ok is

pub begins_with : (given : Result World PbxFault) (w : World) (in_force : PlanOf) → given ≡ Ok w → in_force ≡ w.plan → BeginWith given in_force
begins_with given w in_force is same = subst (λ g. BeginWith g in_force) (sym is) same

-- all tests of a file begin alike
pub same_beginning : (given : Result World PbxFault) (before after : Course) → given ≡ Ok before.machine → given ≡ Ok after.machine
    → before ≡ beginning before.machine → after ≡ beginning after.machine → after ≡ before
same_beginning given before after was is old new =
    new ∙ (ap beginning (same_value given after.machine before.machine is was) ∙ sym old)
