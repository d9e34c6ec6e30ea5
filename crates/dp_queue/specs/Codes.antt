-- The numbers of the faults of queues and the names printed next to them.
use Rattle.std.specs.Prelude.{ℕ, List, ◌++◌, codes, decimal}
use Rattle.dp_conf.specs.Codes.{line_code, line_name}
use Rattle.dp_queue.specs.declared.fault.QueueFault.{QueueFault}
use Rattle.dp_queue.specs.declared.fault.QueueFault.TheVariants.{Line, NoMemory}
use Rattle.dp_queue.specs.declared.fault.QueueLoadKind.{QueueLoadKind}
use Rattle.dp_queue.specs.declared.fault.QueueLoadKind.TheVariants.{Conf, Queue}
use Rattle.dp_queue.specs.declared.fault.OfferFault.{OfferFault}
use Rattle.dp_queue.specs.declared.fault.OfferFault.TheVariants.{NoQueue, NobodyWaiting, NoMember}
use Rattle.dp_queue.specs.declared.fault.QueueKind.{QueueKind}
use Rattle.dp_queue.specs.declared.fault.QueueKind.TheVariants.{BadStrategy, BadNumber, LeftOut, DoubleQueue}

-- the number of a line's fault
abbrev pub queue_code : QueueKind → ℕ
queue_code BadStrategy = 30
queue_code BadNumber = 31
queue_code LeftOut = 32
queue_code DoubleQueue = 33

-- the printed name of a line's fault
abbrev pub queue_name : QueueKind → List ℕ
queue_name BadStrategy = codes "BadStrategy"
queue_name BadNumber = codes "BadNumber"
queue_name LeftOut = codes "LeftOut"
queue_name DoubleQueue = codes "DoubleQueue"

-- the number of a refused offer
abbrev pub offer_code : OfferFault → ℕ
offer_code NoQueue = 44
offer_code NobodyWaiting = 45
offer_code NoMember = 46

-- the printed name of a refused offer
abbrev pub offer_name : OfferFault → List ℕ
offer_name NoQueue = codes "NoQueue"
offer_name NobodyWaiting = codes "NobodyWaiting"
offer_name NoMember = codes "NoMember"

-- the number of the fault of a line, whatever its reason
abbrev pub queue_load_code : QueueLoadKind → ℕ
queue_load_code (Conf kind) = line_code kind
queue_load_code (Queue kind) = queue_code kind

-- the printed name of the fault of a line, whatever its reason
abbrev pub queue_load_name : QueueLoadKind → List ℕ
queue_load_name (Conf kind) = line_name kind
queue_load_name (Queue kind) = queue_name kind

-- what is printed if a file of queues did not load
abbrev pub queue_fault_text : QueueFault → List ℕ
queue_fault_text (Line line kind) = queue_load_name kind ++ codes " line " ++ decimal line
queue_fault_text NoMemory = codes "out of memory"
