-- How the turns of a run are taken one after another, with lines that wait between the writes.
use Rattle.std.specs.Prelude.{◌≡◌, ℕ, ◌≤◌, ◌++◌, Bool, false, List, length, take, Option, Some, None, ⊤, Result, Ok, Err}
use Rattle.std.specs.Io.KnownBytes.{Appends, Keeps}
use Rattle.dp_conf.specs.Fronts.{AppendsFront, IsFront}
use Rattle.dp_machine.specs.World.{World}
use Rattle.dp_commands.specs.Faults.{is_write_failed}
use Rattle.dp_commands.specs.Trace.{after_turn}
use Rattle.dp_commands.specs.Turns.{Taken, lines_of, refused_in, state_past, text_of}
use Rattle.dp_commands.specs.declared.fault.Code.TheVariants.{WriteFailed}
use Rattle.dp_commands.specs.declared.fault.PbxFault.{PbxFault}
use Rattle.dp_commands.specs.declared.fault.PbxFault.TheVariants.{Coded, NoMemory}
use Rattle.dp_commands.specs.declared.script.Turn.{Turn}

-- how a turn changes a world, without a change to the other state
abbrev pub plainly : {P : Type 0} → P × World → Turn → Taken (P × World)
plainly at turn = record { state = (at.0, (after_turn at.1 turn).world); lines = (after_turn at.1 turn).line; refused = (after_turn at.1 turn).refused }

-- the bytes that were written stay as a prefix, and together with the waiting lines they are the same as before, followed by these bytes
abbrev pub Flows : Option (List ℕ) → List ℕ → Option (List ℕ) → List ℕ → List ℕ → Type 0
Flows None waited new waits bytes = ⊤
Flows (Some xs) waited None waits bytes = ⊥
Flows (Some xs) waited (Some ys) waits bytes = (ys ++ waits ≡ xs ++ (waited ++ bytes)) × IsFront xs ys

-- the lines of the first turns, as many as `count`, flowed, and nothing else
pub record FlowsFirst {S U : Type 0} (step : S → U → Taken S) (s : S) (turns : List U) (old : Option (List ℕ)) (waited : List ℕ) (new : Option (List ℕ)) (waits : List ℕ) : Type 0 where
  pub count : ℕ
  pub within : count ≤ length turns
  pub flowed : Flows old waited new waits (lines_of step s (take count turns))

-- the result of taking turns from a state, given what was written and waiting before and after: the lines flow, with whether a turn was
-- refused; if a write failed, a prefix of the waiting bytes and the lines was written; if memory ran out, only the lines of the first turns
-- flowed
abbrev pub Streams : {S U : Type 0} → (S → U → Taken S) → S → List U → Option (List ℕ) → List ℕ → Option (List ℕ) → List ℕ → S → Result Bool PbxFault → Type 0
Streams step s turns old waited new waits after (Ok refused) =
    Flows old waited new waits (lines_of step s turns) × (after ≡ state_past step s turns) × (refused ≡ refused_in step s turns)
Streams step s turns old waited new waits after (Err (Coded code line)) =
    AppendsFront old new (waited ++ lines_of step s turns) × (code ≡ WriteFailed) × (line ≡ None)
Streams step s turns old waited new waits after (Err NoMemory) = FlowsFirst step s turns old waited new waits

-- the same for the turns and the lines after the last of them, with the status
abbrev pub StreamsAll : {S U : Type 0} → (S → U → Taken S) → (S → List ℕ) → (S → Bool → ℕ) → S → List U → Option (List ℕ) → List ℕ → Option (List ℕ) → List ℕ → Result ℕ PbxFault → Type 0
StreamsAll step last status s turns old waited new waits (Ok answer) =
    Flows old waited new waits (text_of step last s turns) × (answer ≡ status (state_past step s turns) (refused_in step s turns))
StreamsAll step last status s turns old waited new waits (Err (Coded code line)) =
    AppendsFront old new (waited ++ text_of step last s turns) × (code ≡ WriteFailed) × (line ≡ None)
StreamsAll step last status s turns old waited new waits (Err NoMemory) = FlowsFirst step s turns old waited new waits

-- the output and result of the end of a run, given the waiting bytes and the result so far
abbrev pub Ends : Option (List ℕ) → List ℕ → Option (List ℕ) → Result ℕ PbxFault → Result ℕ PbxFault → Type 0
Ends old waits new (Ok came_to) (Ok status) = Appends old new waits × (status ≡ came_to)
Ends old waits new (Ok came_to) (Err (Coded code line)) = AppendsFront old new waits × (code ≡ WriteFailed) × (line ≡ None)
Ends old waits new (Ok came_to) (Err NoMemory) = ⊥
Ends old waits new (Err (Coded code line)) (Ok status) = ⊥
Ends old waits new (Err (Coded code line)) (Err (Coded other at)) = Keeps old new × (other ≡ code) × (at ≡ line)
Ends old waits new (Err (Coded code line)) (Err NoMemory) = ⊥
Ends old waits new (Err NoMemory) (Ok status) = ⊥
Ends old waits new (Err NoMemory) (Err (Coded code line)) = AppendsFront old new waits × (code ≡ WriteFailed) × (line ≡ None)
Ends old waits new (Err NoMemory) (Err NoMemory) = Appends old new waits

-- whether the write at the end of a run failed, given the result so far: after a failed write there is no further one
abbrev pub fails_at_the_end : Result ℕ PbxFault → Result ℕ PbxFault → Bool
fails_at_the_end (Ok came_to) result = is_write_failed result
fails_at_the_end (Err (Coded code line)) result = false
fails_at_the_end (Err NoMemory) result = is_write_failed result
