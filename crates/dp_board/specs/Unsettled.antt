-- What is known if a board was not settled.
use Rattle.std.specs.Prelude.{◌≡◌, ℕ, List}
use Rattle.dp_app.specs.Rows.{Meanings}
use Rattle.dp_machine.specs.World.{World}
use Rattle.dp_board.specs.Log.{Log}
use Rattle.dp_board.specs.Settled.{IsLeastAbsent, IsLeastDifference, IsWholeHistory}
use Rattle.dp_board.specs.Sittings.{SeatSitting}
use Rattle.dp_board.specs.declared.fault.SettleFault.{SettleFault}
use Rattle.dp_board.specs.declared.fault.SettleFault.TheVariants.{SeatMissing, Differs, NoMemory}
use Rattle.dp_board.specs.declared.settle.Back.{Back}
use Rattle.dp_board.specs.declared.settle.Back.TheVariants.{Open, Closed}

-- a fault that leaves the board open
abbrev pub IsOpenFault : ℕ → List SeatSitting → SettleFault → Type 0
IsOpenFault count seats NoMemory = Unit {0}
IsOpenFault count seats (SeatMissing seat) = IsLeastAbsent count seats seat
IsOpenFault count seats (Differs found) = ⊥

-- a fault that leaves a history
abbrev pub IsClosedFault : Meanings → World → ℕ → List SeatSitting → SettleFault → Log → Type 0
IsClosedFault meanings first count seats NoMemory history = ⊥
IsClosedFault meanings first count seats (SeatMissing seat) history = ⊥
IsClosedFault meanings first count seats (Differs found) history = IsWholeHistory meanings first count seats history × IsLeastDifference history.entries seats found

-- why a board with so many seats was not settled, and what is handed back: the board or the history, and the seats
abbrev pub IsUnsettled : {T S F : Type 0} → Meanings → World → ℕ → List SeatSitting → SettleFault → Back T S F → Type 0
IsUnsettled meanings first count seats fault (Open board back) = IsOpenFault count seats fault × (board ≡ count) × (back.items ≡ seats)
IsUnsettled meanings first count seats fault (Closed history back) = IsClosedFault meanings first count seats fault history × (back.items ≡ seats)
