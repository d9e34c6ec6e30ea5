use Rattle.dp_program.proofs.ReadsLemmas.{refused_unknown}
use Rattle.dp_program.proofs.files.AnyReadFiles.read_file.Goals as goal

pub returns-in-Err-clause-read : goal.returns-in-Err-clause-read
returns-in-Err-clause-read g c = refused_unknown c.opening_fault.result c.opening_fault.ensures.fault
