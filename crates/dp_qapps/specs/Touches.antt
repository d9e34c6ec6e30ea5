-- The parts of a cell that each application of queues may change.
use Rattle.std.specs.Prelude.{true, false}
use Rattle.dp_app.specs.declared.touch.Touch.{Touch}

-- the variables, and the waiting lists
abbrev pub variables_and_waiting : Touch
variables_and_waiting = record { variables = true; frames = false; globals = false; caller = false; members = false; waiting = true }

-- the variables, and the members of queues
abbrev pub variables_and_members : Touch
variables_and_members = record { variables = true; frames = false; globals = false; caller = false; members = true; waiting = false }
