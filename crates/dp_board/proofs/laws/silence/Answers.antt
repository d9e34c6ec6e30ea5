use Rattle.dp_board.proofs.HistoryLemmas.{MayBeSilent-of}
use Rattle.dp_board.proofs.laws.silence.Goals as goal

pub returns : goal.returns
returns c = λ meanings first count seats history channel settled unseen. MayBeSilent-of meanings first channel history settled.whole.replays unseen
