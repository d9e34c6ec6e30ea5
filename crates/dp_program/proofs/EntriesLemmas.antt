-- A name that exactly one entry has, and the first line of each entry.
use Rattle.std.proofs.Common.{◌≡◌, ℕ, ◌++◌, [], Option, Some, None, true, refl}
use Rattle.std.specs.Fmt.{digits}
use Rattle.std.specs.Option.{option_to_list}
use Rattle.dp_board.specs.declared.fault.SettleFault.TheVariants.{SeatMissing, Differs, NoMemory}
use Rattle.dp_commands.specs.Codes.{code_name, code_number}
use Rattle.dp_commands.specs.declared.fault.Code.{Code}
use Rattle.dp_commands.specs.declared.fault.Code.TheVariants.{Line, Name, Plan, QueueLine, Queue, ReadFailed, TooLong, WriteFailed, Settle, BadScript, BadBreak}
use Rattle.dp_conf.specs.declared.fault.LineKind.TheVariants.{BlockComment, NoSection, BadHeader, NoEquals, Directive, Template}
use Rattle.dp_machine.specs.Codes.{refusal_code, refusal_name}
use Rattle.dp_machine.specs.declared.refusal.Refusal.{Refusal}
use Rattle.dp_machine.specs.declared.refusal.Refusal.TheVariants.{NoChannel, NotReady, NotWaiting, NoTimer, NoQueue, NobodyWaiting, NoMember, NotRinging, NotTalking, Ended, NumbersSpent, BadDigit, BadPlan, NotDialling}
use Rattle.dp_pattern.specs.declared.fault.NameFault.TheVariants.{EmptyName, EmptySet, BadRange, OpenSet, AfterWildcard, BadByte}
use Rattle.dp_plan.specs.declared.fault.PlanKind.TheVariants.{BadPriority, NoPrevious, BadLabel, BadApplication, TooDeep, NoExten, PriorityLimit, ShortLine, LeftOut as plan_left_out}
use Rattle.dp_program.specs.Entries.{entry_of, found_entry, is_headed, only}
use Rattle.dp_queue.specs.declared.fault.QueueKind.TheVariants.{BadStrategy, BadNumber, DoubleQueue, LeftOut as queue_left_out}

-- the element that was found is the only one in the list
pub only_first : (found : Option ℕ) → only (option_to_list found ++ []) ≡ found
only_first None = refl
only_first (Some number) = refl

-- the entry of a fault begins with its number and its name
pub headed-fault : (code : Code) → is_headed (code_number code) (code_name code) (entry_of (code_number code)) ≡ true
unfolding found_entry digits
headed-fault (Line BlockComment) = refl
headed-fault (Line NoSection) = refl
headed-fault (Line BadHeader) = refl
headed-fault (Line NoEquals) = refl
headed-fault (Line Directive) = refl
headed-fault (Line Template) = refl
headed-fault (Name EmptyName) = refl
headed-fault (Name EmptySet) = refl
headed-fault (Name BadRange) = refl
headed-fault (Name OpenSet) = refl
headed-fault (Name AfterWildcard) = refl
headed-fault (Name BadByte) = refl
headed-fault (Plan BadPriority) = refl
headed-fault (Plan NoPrevious) = refl
headed-fault (Plan BadLabel) = refl
headed-fault (Plan BadApplication) = refl
headed-fault (Plan TooDeep) = refl
headed-fault (Plan NoExten) = refl
headed-fault (Plan PriorityLimit) = refl
headed-fault (Plan ShortLine) = refl
headed-fault (Plan (plan_left_out word)) = refl
headed-fault (QueueLine BlockComment) = refl
headed-fault (QueueLine NoSection) = refl
headed-fault (QueueLine BadHeader) = refl
headed-fault (QueueLine NoEquals) = refl
headed-fault (QueueLine Directive) = refl
headed-fault (QueueLine Template) = refl
headed-fault (Queue BadStrategy) = refl
headed-fault (Queue BadNumber) = refl
headed-fault (Queue DoubleQueue) = refl
headed-fault (Queue queue_left_out) = refl
headed-fault ReadFailed = refl
headed-fault TooLong = refl
headed-fault WriteFailed = refl
headed-fault (Settle (SeatMissing seat)) = refl
headed-fault (Settle (Differs found)) = refl
headed-fault (Settle NoMemory) = refl
headed-fault BadScript = refl
headed-fault BadBreak = refl

-- and so does the entry of a refusal
pub headed-refusal : (refusal : Refusal) → is_headed (refusal_code refusal) (refusal_name refusal) (entry_of (refusal_code refusal)) ≡ true
unfolding found_entry digits
headed-refusal NoChannel = refl
headed-refusal NotReady = refl
headed-refusal NotWaiting = refl
headed-refusal NoTimer = refl
headed-refusal NoQueue = refl
headed-refusal NobodyWaiting = refl
headed-refusal NoMember = refl
headed-refusal NotRinging = refl
headed-refusal NotTalking = refl
headed-refusal Ended = refl
headed-refusal NumbersSpent = refl
headed-refusal BadDigit = refl
headed-refusal BadPlan = refl
headed-refusal NotDialling = refl
