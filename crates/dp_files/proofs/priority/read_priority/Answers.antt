use Rattle.std.proofs.Common.{sym, ◌∙◌}
use Rattle.dp_files.proofs.DigitsLemmas.{capped_priority}
use Rattle.dp_files.proofs.priority.read_priority.Goals as goal

-- a number alone
pub returns-in-Some : goal.returns-in-Some
returns-in-Some c = c.plain_priority.ensures ∙ capped_priority c.args.text.now c.in-Some.number (sym c.in-Some.ensures)
