-- The runner that takes turns.
use Rattle.std.specs.Prelude.{ℕ, Bool, List, Option, Result}
use Rattle.dp_machine.specs.World.{World}
use Rattle.dp_commands.specs.Turns.{Taken}
use Rattle.dp_commands.specs.steps.Streams.{Streams}
use Rattle.dp_commands.specs.declared.fault.PbxFault.{PbxFault}
use Rattle.dp_commands.specs.declared.run.Runner.{Runner}

-- the result of a runner that takes turns, given the text written before them and the runner before, and the text and the runner after
abbrev pub Takes : {T A U : Type 0} → (T × World → U → Taken (T × World)) → List U → Option (List ℕ) → Runner T A → Option (List ℕ) → Runner T A → Result Bool PbxFault → Type 0
Takes step turns old before new after result =
    Streams step (before.taker, before.machine) turns old before.block.whole new after.block.whole (after.taker, after.machine) result
