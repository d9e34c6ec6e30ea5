use Rattle.dp_files.proofs.PlainFilesLemmas.{plain_is_kept}
use Rattle.dp_files.proofs.laws.plain_files_are_kept.Goals as goal

pub returns : goal.returns
returns c = plain_is_kept
