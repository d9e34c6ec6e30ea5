-- When a claim is closed: the machine and each entry that may run in an area keep to it.
use Rattle.std.specs.Prelude.{◌≡◌, ℕ, Bool, true, List, codes}
use Rattle.std.specs.List.{AllByRecursion}
use Rattle.dp_plan.specs.declared.entry.Entry.{Entry}
use Rattle.dp_plan.specs.declared.entry.EntryId.{EntryId}
use Rattle.dp_vars.specs.Sights.{Sight}
use Rattle.dp_vars.specs.Values.{expansion_with}
use Rattle.dp_machine.specs.Codes.{status_name}
use Rattle.dp_machine.specs.declared.dial_status.DialStatus.{DialStatus}
use Rattle.dp_pieces.specs.Bytes.{IsPart, Within, digits}
use Rattle.dp_pieces.specs.Names.{IsWhole, IsWithin}
use Rattle.dp_pieces.specs.Pieces.{Fits, PieceOf, pieces_set}
use Rattle.dp_reach.specs.Areas.{Area, Includes, area_matched, beside, names_at}
use Rattle.dp_reach.specs.Bounds.{Obligations, MeetsAll}
use Rattle.dp_reach.specs.Finding.{MayFind}
use Rattle.dp_reach.specs.Holding.{Claim}

-- the names of an area have the bytes that the machine puts into them
pub record IsNamed (claim : Claim) (area : Area) : Type 0 where
  pub exten : IsPart (pieces_set area.exten) claim.names.all
  pub context : IsPart (pieces_set area.context) claim.names.all
  pub invalid : IsPart (pieces_set area.exten) (claim.names.bytes (codes "INVALID_EXTEN"))

-- the names that are the same in each area have the bytes that the machine puts into them
pub record HasMachineNames (claim : Claim) : Type 0 where
  pub whole : IsWhole claim.names
  pub priority : IsPart digits (claim.names.bytes (codes "PRIORITY"))
  pub channel : Within (claim.names.bytes (codes "CHANNEL")) (codes "Channel/")
  pub number : IsPart digits (claim.names.bytes (codes "CHANNEL"))
  pub timeout : Within (claim.names.bytes (codes "QUEUESTATUS")) (codes "TIMEOUT")
  pub leave : Within (claim.names.bytes (codes "QUEUESTATUS")) (codes "LEAVEEMPTY")
  pub talked : Within (claim.names.bytes (codes "QUEUESTATUS")) (codes "CONTINUE")
  pub status : (status : DialStatus) → Within (claim.names.bytes (codes "DIALSTATUS")) (status_name status)
  pub unanswered : Within (claim.names.bytes (codes "DIALSTATUS")) (codes "NOANSWER")
  pub cancelled : Within (claim.names.bytes (codes "DIALSTATUS")) (codes "CANCEL")

-- an entry that may run in an area is an answer; its arguments fit pieces in any view, and the duties that follow from these are met
pub record IsEntry (owing : Obligations) (claim : Claim) (answers : EntryId → Bool) (area : Area) (id : EntryId) (entry : Entry) : Type 0 where
  pub answer : answers id ≡ true
  pub pieces : List PieceOf
  pub fits : (sight : Sight) → IsWithin (names_at claim.names area) sight → Fits pieces (expansion_with owing.functions sight entry.arguments)
  pub met : MeetsAll claim (owing.duties entry.application area pieces)

-- an area is closed: where a call goes that ends or finds nothing, and each entry that may be found, with what is known of its match
pub record IsAreaClosed (owing : Obligations) (claim : Claim) (answers : EntryId → Bool) (area : Area) : Type 0 where
  pub named : IsNamed claim area
  pub hang : Includes claim.plan claim.reach (beside area (codes "h"))
  pub invalid : Includes claim.plan claim.reach (beside area (codes "i"))
  pub entries : (id : EntryId) (entry : Entry) → MayFind claim.plan area id entry → IsEntry owing claim answers (area_matched area entry.name) id entry

-- a claim is closed, with the entries in the answer
pub record IsClosed (owing : Obligations) (claim : Claim) (answers : EntryId → Bool) : Type 0 where
  pub named : HasMachineNames claim
  pub areas : AllByRecursion (IsAreaClosed owing claim answers) claim.reach
