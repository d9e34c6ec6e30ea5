-- The numbers of a board's faults, and their printed names.
use Rattle.std.specs.Prelude.{ℕ, List, codes}
use Rattle.dp_board.specs.declared.fault.SettleFault.{SettleFault}
use Rattle.dp_board.specs.declared.fault.SettleFault.TheVariants.{SeatMissing, Differs, NoMemory}

-- the number of a fault
abbrev pub fault_code : SettleFault → ℕ
fault_code (SeatMissing seat) = 60
fault_code (Differs found) = 61
fault_code NoMemory = 62

-- the printed name of a fault
abbrev pub fault_name : SettleFault → List ℕ
fault_name (SeatMissing seat) = codes "SeatMissing"
fault_name (Differs found) = codes "Disagree"
fault_name NoMemory = codes "NoMemory"
