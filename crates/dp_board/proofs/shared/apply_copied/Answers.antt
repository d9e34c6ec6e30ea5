use Rattle.std.proofs.Common.{rules}
use Rattle.dp_board.proofs.shared.apply_copied.Goals as goal

pub returns-clause-row : goal.returns-clause-row
returns-clause-row g c = search rules
