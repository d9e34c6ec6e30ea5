use Rattle.std.proofs.Common.{rules}
use Rattle.dp_board.proofs.board.Board.act.Goals as goal

pub returns-clause-told : goal.returns-clause-told
returns-clause-told g c = search rules
