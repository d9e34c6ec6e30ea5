-- A runner continues, or stops.
use Rattle.std.proofs.Common.{◌≡◌, ℕ, Bool, ◌||◌, List, ◌++◌, Option, Ok, Err, subst}
use Rattle.dp_machine.specs.World.{World}
use Rattle.dp_commands.specs.Turns.{Taken}
use Rattle.dp_commands.specs.steps.Runners.{Takes}
use Rattle.dp_commands.specs.declared.fault.PbxFault.{PbxFault}
use Rattle.dp_commands.specs.declared.run.Runner.{Runner}
use Rattle.dp_commands.proofs.StreamsLemmas.{Streams-goes_on, Streams-more, Streams-stops}

module _ {T A U : Type 0} (step : T × World → U → Taken (T × World)) (ts us all : List U) (c d e : Option (List ℕ)) (first second third : Runner T A) (refused : Bool) where
  -- more turns are taken after the others
  pub Takes-goes_on : (more : Bool) → ts ++ us ≡ all → Takes step ts c first d second (Ok refused) → Takes step us d second e third (Ok more)
      → Takes step all c first e third (Ok (refused || more))
  Takes-goes_on more whole so_far then_on =
      let P : List U → Type 0 = λ turns. Takes step turns c first e third (Ok (refused || more)) in
      subst P whole (Streams-goes_on step (first.taker, first.machine) ts us c d e first.block.whole second.block.whole third.block.whole
      (second.taker, second.machine) (third.taker, third.machine) refused more so_far then_on)

  -- the turns after which the others stopped, with the remaining ones
  pub Takes-stops : (rest : List U) (fault : PbxFault) → (ts ++ us) ++ rest ≡ all → Takes step ts c first d second (Ok refused)
      → Takes step us d second e third (Err fault) → Takes step all c first e third (Err fault)
  Takes-stops rest fault whole so_far stopped =
      let P : List U → Type 0 = λ turns. Takes step turns c first e third (Err fault) in
      subst P whole (Streams-more step (first.taker, first.machine) (ts ++ us) rest c e first.block.whole third.block.whole (third.taker, third.machine) fault
      (Streams-stops step (first.taker, first.machine) ts us c d e first.block.whole second.block.whole third.block.whole
      (second.taker, second.machine) (third.taker, third.machine) refused fault so_far stopped))
