-- The numbers of the refusals and their printed names, and the names of the results of a call to devices.
use Rattle.std.specs.Prelude.{ℕ, List, codes}
use Rattle.dp_machine.specs.declared.refusal.Refusal.{Refusal}
use Rattle.dp_machine.specs.declared.refusal.Refusal.TheVariants.{NoChannel, NotReady, NotWaiting, NoTimer, NoQueue, NobodyWaiting, NoMember, NotRinging, NotTalking, Ended, NumbersSpent, BadDigit, BadPlan, NotDialling}
use Rattle.dp_machine.specs.declared.dial_status.DialStatus.{DialStatus}
use Rattle.dp_machine.specs.declared.dial_status.DialStatus.TheVariants.{Answer, Busy, NoAnswer, Congestion, ChanUnavail, DontCall, Torture, InvalidArgs}

-- the number of a refusal
abbrev pub refusal_code : Refusal → ℕ
refusal_code NoChannel = 40
refusal_code NotReady = 41
refusal_code NotWaiting = 42
refusal_code NoTimer = 43
refusal_code NoQueue = 44
refusal_code NobodyWaiting = 45
refusal_code NoMember = 46
refusal_code NotRinging = 47
refusal_code NotTalking = 48
refusal_code Ended = 49
refusal_code NumbersSpent = 50
refusal_code BadDigit = 51
refusal_code BadPlan = 52
refusal_code NotDialling = 53

-- the printed name of a refusal
abbrev pub refusal_name : Refusal → List ℕ
refusal_name NoChannel = codes "NoChannel"
refusal_name NotReady = codes "NotReady"
refusal_name NotWaiting = codes "NotWaiting"
refusal_name NoTimer = codes "NoTimer"
refusal_name NoQueue = codes "NoQueue"
refusal_name NobodyWaiting = codes "NobodyWaiting"
refusal_name NoMember = codes "NoMember"
refusal_name NotRinging = codes "NotRinging"
refusal_name NotTalking = codes "NotTalking"
refusal_name Ended = codes "Ended"
refusal_name NumbersSpent = codes "NumbersSpent"
refusal_name BadDigit = codes "BadDigit"
refusal_name BadPlan = codes "BadPlan"
refusal_name NotDialling = codes "NotDialling"

-- the value of `DIALSTATUS` for the result of a call to devices
abbrev pub status_name : DialStatus → List ℕ
status_name Answer = codes "ANSWER"
status_name Busy = codes "BUSY"
status_name NoAnswer = codes "NOANSWER"
status_name Congestion = codes "CONGESTION"
status_name ChanUnavail = codes "CHANUNAVAIL"
status_name DontCall = codes "DONTCALL"
status_name Torture = codes "TORTURE"
status_name InvalidArgs = codes "INVALIDARGS"
