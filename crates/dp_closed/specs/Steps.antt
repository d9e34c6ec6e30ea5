-- The steps of private functions. No public clause depends on them.
use Rattle.std.specs.Global.{Vec}
use Rattle.std.specs.List.{AllByRecursion}
use Rattle.std.specs.Prelude.{ℕ, Bool, List, [], ◌∷◌, codes, map, option_map}
use Rattle.dp_closed.specs.Answers.{answers_in, shown_outside}
use Rattle.dp_closed.specs.Claimed.{AreWays, kept_claim}
use Rattle.dp_closed.specs.Reach.{areas_in}
use Rattle.dp_closed.specs.declared.audit.Audit.{Audit}
use Rattle.dp_closed.specs.declared.claim_check.Checker.{Checker}
use Rattle.dp_closed.specs.declared.shapes.Shapes.{Shapes}
use Rattle.dp_closed.specs.declared.shapes.Shapes.TheVariants.{Nothing, One, Two}
use Rattle.dp_machine.specs.Codes.{status_name}
use Rattle.dp_machine.specs.declared.dial_status.DialStatus.{DialStatus}
use Rattle.dp_pieces.specs.Bytes.{IsPart, Within, digits}
use Rattle.dp_pieces.specs.Names.{Names}
use Rattle.dp_pieces.specs.Pieces as spec
use Rattle.dp_pieces.specs.Shown.{shown_all}
use Rattle.dp_pieces.specs.Tables.{names_in}
use Rattle.dp_pieces.specs.declared.piece.Piece.{Piece}
use Rattle.dp_plan.specs.declared.entry.Entry.{Entry}
use Rattle.dp_plan.specs.declared.entry.EntryId.{EntryId}
use Rattle.dp_queue.specs.declared.settings.Settings.{Settings}
use Rattle.dp_reach.specs.Areas.{Area, Includes, area_at, area_matched}
use Rattle.dp_reach.specs.Audits.{IsGlobalWithin, Outside, entrance}
use Rattle.dp_reach.specs.Bounds.{Obligations}
use Rattle.dp_reach.specs.Closed.{IsAreaClosed, IsEntry}
use Rattle.dp_reach.specs.Finding.{MayFind}
use Rattle.dp_reach.specs.Holding.{Claim}

-- the shapes as a list
abbrev pub shown_shapes : Shapes → List (List spec.PieceOf)
shown_shapes Nothing = []
shown_shapes (One shape) = shown_all shape.now ∷ []
shown_shapes (Two shape other) = shown_all shape.now ∷ shown_all other.now ∷ []

-- the parts of a target
abbrev pub shown_parts : List (Vec Piece) → List (List spec.PieceOf)
shown_parts parts = map (λ part. shown_all part.items) parts

-- the known bytes
abbrev pub known_bytes : List spec.PieceOf → List ℕ
known_bytes [] = []
known_bytes (spec.Known byte ∷ pieces) = byte ∷ known_bytes pieces
known_bytes (spec.OneOf set ∷ pieces) = known_bytes pieces
known_bytes (spec.AnyOf set ∷ pieces) = known_bytes pieces

-- an area for places where the area does not matter
abbrev pub any_area : Area
any_area = area_at [] []

-- the entries that a checker takes as answers
abbrev pub answers_of : Checker → EntryId → Bool
answers_of checker = answers_in (option_map (λ marks. marks.now) checker.answers)

-- a property of the claim and of these entries, with any settings of queues that have these ways out
abbrev pub Closes : Checker → (Claim → (EntryId → Bool) → Type 0) → Type 0
Closes checker holds = (settings : List Settings) → AreWays settings checker.claim.ways.now → holds (kept_claim checker.claim settings) (answers_of checker)

-- an entry is closed if it may be found from the area
abbrev pub IsEntryIn : Obligations → Claim → (EntryId → Bool) → Area → EntryId → Type 0
IsEntryIn owing claim answers area id = (entry : Entry) → MayFind claim.plan area id entry → IsEntry owing claim answers (area_matched area entry.name) id entry

-- each area with the name of a context and one of these shapes is closed
abbrev pub AreShapesClosed : Obligations → Checker → List ℕ → List (Vec Piece) → Type 0
AreShapesClosed owing checker name shapes = AllByRecursion
    (λ shape. Closes checker (λ claim answers. IsAreaClosed owing claim answers (area_at (spec.exactly name) (shown_all shape.items)))) shapes

-- the names have what the machine gives to each channel
pub record IsSelfNamed (names : Names) : Type 0 where
  pub priority : IsPart digits (names.bytes (codes "PRIORITY"))
  pub number : IsPart digits (names.bytes (codes "CHANNEL"))
  pub channel : Within (names.bytes (codes "CHANNEL")) (codes "Channel/")

-- the names have what the machine gives to a channel that leaves a queue
pub record IsQueueNamed (names : Names) : Type 0 where
  pub timeout : Within (names.bytes (codes "QUEUESTATUS")) (codes "TIMEOUT")
  pub leave : Within (names.bytes (codes "QUEUESTATUS")) (codes "LEAVEEMPTY")
  pub talked : Within (names.bytes (codes "QUEUESTATUS")) (codes "CONTINUE")

-- the names have what the machine gives to a channel after its call to devices
pub record IsDialNamed (names : Names) : Type 0 where
  pub status : (status : DialStatus) → Within (names.bytes (codes "DIALSTATUS")) (status_name status)
  pub unanswered : Within (names.bytes (codes "DIALSTATUS")) (codes "NOANSWER")
  pub cancelled : Within (names.bytes (codes "DIALSTATUS")) (codes "CANCEL")

-- the names may have the numbers of callers, and they and the caller's number may have what is set from outside
pub record AreFactsHeld (outside : Outside) (names : Names) : Type 0 where
  pub caller : IsPart outside.caller names.caller
  pub facts : (name : List ℕ) → IsPart outside.facts (names.bytes name)
  pub stated : IsPart outside.facts names.caller

-- calls come in within their reach, and the names may have their numbers, what is set from outside and the values of globals
pub record IsEntered (owing : Obligations) (audit : Audit) : Type 0 where
  pub calls : AllByRecursion (λ name. Includes audit.wide.plan.now (areas_in audit.wide.plan.now.contexts audit.wide.reach.now.shapes.items)
      (entrance (shown_outside audit.outside.now) name)) (shown_outside audit.outside.now).contexts
  pub call : Includes audit.wide.plan.now (areas_in audit.wide.plan.now.contexts audit.reach.now.shapes.items)
      (entrance (shown_outside audit.outside.now) audit.context.now)
  pub held : AreFactsHeld (shown_outside audit.outside.now) (names_in audit.wide.names.now)
  pub globals : AllByRecursion (IsGlobalWithin owing (names_in audit.wide.names.now)) audit.wide.plan.now.globals
