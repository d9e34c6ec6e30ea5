use Rattle.dp_program.proofs.EntriesLemmas.{headed-fault, headed-refusal}
use Rattle.dp_program.proofs.entries.entries_are_headed.Goals as goal

pub returns : goal.returns
returns c = record { faults = headed-fault; refusals = headed-refusal }
