use Rattle.std.proofs.Common.{rules}
use Rattle.dp_diff.proofs.TellingLemmas.{tells_one}
use Rattle.dp_diff.proofs.sheet.Sheet.tell.Goals as goal

pub returns : goal.returns
returns g c = search (rules, tells_one)
