use Rattle.dp_board.proofs.HistoryLemmas.{PlacesRise-of}
use Rattle.std.proofs.Common.{get_or}
use Rattle.dp_board.proofs.laws.places_rise.Goals as goal

pub returns : goal.returns
returns c = λ meanings first count seats history settled k d within. PlacesRise-of history.entries (get_or seats k d) (settled.records k d within)
