-- Openings that wait for their ends, and their places in what is written.
use Rattle.std.specs.Prelude.{ℕ, ◌+◌, ◌≤◌, List, [], ◌∷◌, length, map}
use Rattle.dp_conf.specs.declared.groups.GroupKind.{GroupKind}
use Rattle.dp_vars.specs.Expanding.{WrittenSoFar}
use Rattle.dp_vars.specs.declared.expanding.WaitingOpening.{WaitingOpening}

-- the kinds of the waiting openings
abbrev pub kinds_of : List WaitingOpening → List GroupKind
kinds_of waiting = map (λ w. w.kind) waiting

-- the openings are within this many bytes, each before those inside it
abbrev pub StandIn : List WaitingOpening → ℕ → Type 0
StandIn [] size = Unit {0}
StandIn (w ∷ waiting) size = (w.start + 2 ≤ size) × StandIn waiting w.start

-- the openings are within what is written
abbrev pub AreWritten : WrittenSoFar → Type 0
AreWritten written = StandIn written.waiting (length written.bytes)
