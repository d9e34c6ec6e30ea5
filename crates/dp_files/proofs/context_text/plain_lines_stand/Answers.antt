use Rattle.dp_files.proofs.PlainLemmas.{plain_lines, plain_remarks}
use Rattle.dp_files.proofs.context_text.plain_lines_stand.Goals as goal

pub returns : goal.returns
returns c = record { lines = plain_lines; remarks = plain_remarks }
