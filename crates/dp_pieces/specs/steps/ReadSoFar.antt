-- What is read so far, as values of the definition, and the places of the openings in it.
use Rattle.std.specs.Prelude.{ℕ, ◌+◌, ◌≤◌, List, [], ◌∷◌, map, reverse}
use Rattle.dp_pieces.specs.Shown.{shown_all}
use Rattle.dp_pieces.specs.declared.reader.Open.{Open}
use Rattle.dp_pieces.specs.declared.reader.PiecesReading.{PiecesReading}
use Rattle.dp_pieces.specs.steps.Reader as steps

-- an opening, with its kind and its place
abbrev pub shown_open : Open → steps.OpenOf
shown_open o = record { kind = o.kind; start = o.start }

-- what is read so far
abbrev pub read_of : PiecesReading → steps.Read
read_of reading = record { pieces = shown_all reading.pieces.items; waiting = reverse (map shown_open reading.waiting.items) }

-- the openings are within this many pieces, each before those inside it
abbrev pub StandIn : List steps.OpenOf → ℕ → Type 0
StandIn [] size = Unit {0}
StandIn (w ∷ waiting) size = (w.start + 2 ≤ size) × StandIn waiting w.start
