use Rattle.std.proofs.Common.{◌≡◌, false}
use Rattle.dp_program.specs.Files.{has_read_failed}
use Rattle.dp_program.proofs.RunLemmas.{run_of_reads, writes_reads}
use Rattle.dp_program.proofs.runs.run_input.Goals as goal

pub returns-clause-heard : goal.returns-clause-heard
returns-clause-heard g c =
    let quiet : has_read_failed c.run_joined.result ≡ false = writes_reads _ _ _ _ (run_of_reads _ _ _ _) c.run_joined.ensures.writes in
    rw quiet c.in_ok-text.ensures.told
