-- The result of making a command.
use Rattle.std.specs.Prelude.{◌≡◌, false, Result, IfOk}
use Rattle.clap.specs.Simple.{App, app_of}
use Rattle.clap.specs.declared.builder.command.Command.{Command}
use Rattle.clap.specs.declared.builder.command.Command.TheViews.{out-Command}

-- if a command was made it is this one, and none of its words goes to commands below it
abbrev pub Makes : {E : Type 0} → App → Result Command E → Type 0
Makes app made = IfOk made (λ command. (app_of command ≡ app) × ((out-Command command).has_globals ≡ false))
