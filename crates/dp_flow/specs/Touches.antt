-- The parts of a cell that each application may change.
use Rattle.std.specs.Prelude.{true, false}
use Rattle.dp_app.specs.declared.touch.Touch.{Touch}

-- nothing
abbrev pub nothing : Touch
nothing = record { variables = false; frames = false; globals = false; caller = false; members = false; waiting = false }

-- the frames
abbrev pub the_frames : Touch
the_frames = record nothing { frames = true }

-- the variables
abbrev pub the_variables : Touch
the_variables = record nothing { variables = true }

-- the variables, and the frames
abbrev pub variables_and_frames : Touch
variables_and_frames = record nothing { variables = true; frames = true }

-- what can be set: the variables, the globals and the caller's number
abbrev pub settable : Touch
settable = record nothing { variables = true; globals = true; caller = true }
