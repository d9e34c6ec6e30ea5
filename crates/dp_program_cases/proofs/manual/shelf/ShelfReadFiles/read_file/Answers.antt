use Rattle.std.proofs.Common.{rules, Err, None, inl, refl}
use Rattle.dp_commands.specs.declared.fault.Code.TheVariants.{TooLong}
use Rattle.dp_commands.specs.declared.fault.PbxFault.TheVariants.{Coded}
use Rattle.dp_program_cases.proofs.manual.shelf.ShelfReadFiles.read_file.Goals as goal

-- If memory runs out, nothing is said of the text, so any text that the file may have will do.
pub returns-in_err-path-clause-read : goal.returns-in_err-path-clause-read
returns-in_err-path-clause-read c = record { text = Err (Coded TooLong None); given = inl refl; holds = search rules }

pub returns-in_err-file-clause-read : goal.returns-in_err-file-clause-read
returns-in_err-file-clause-read c = record { text = Err (Coded TooLong None); given = inl refl; holds = search rules }

pub returns-in_err-bytes_of-in-Some-clause-read : goal.returns-in_err-bytes_of-in-Some-clause-read
returns-in_err-bytes_of-in-Some-clause-read c = record { text = Err (Coded TooLong None); given = inl refl; holds = search rules }
