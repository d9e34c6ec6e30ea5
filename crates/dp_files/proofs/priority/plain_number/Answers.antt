use Rattle.std.proofs.Common.{sym}
use Rattle.dp_files.proofs.DigitsLemmas.{plain_priority}
use Rattle.dp_files.proofs.priority.plain_number.Goals as goal

pub returns-clause-priority : goal.returns-clause-priority
returns-clause-priority c =
    plain_priority c.args.text.now c.in-Some.number (sym c.in-Some.ensures) c.if-number-eq0.false c.if-number-gt-MOST_PRIORITY.false
