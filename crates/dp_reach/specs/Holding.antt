-- The state of a channel: values with only the bytes that their names may have, frames that return into the reach, and a phase that leads
-- into it.
use Rattle.std.specs.Prelude.{◌≡◌, ℕ, true, List, [], ◌∷◌, Option, Some, None, codes, map, slice_get, unwrap_or}
use Rattle.std.specs.List.{AllByRecursion}
use Rattle.std.specs.FinMap.{get}
use Rattle.std.specs.Option.{option_map}
use Rattle.dp_vars.specs.Stores.{StoreFrame, StoreOf}
use Rattle.dp_vars.specs.Variables.{Named}
use Rattle.dp_plan.specs.Plan.{PlanOf}
use Rattle.dp_queue.specs.declared.settings.Settings.{Settings}
use Rattle.dp_machine.specs.Events.{is_digit}
use Rattle.dp_machine.specs.Targets.{if_found, parts_place, place_of, target_place}
use Rattle.dp_machine.specs.declared.channel.Channel.{Channel}
use Rattle.dp_machine.specs.declared.shared_state.SharedState.{SharedState}
use Rattle.dp_app.specs.Rows.{Outcome}
use Rattle.dp_app.specs.Cells.{CellOf}
use Rattle.dp_app.specs.declared.moves.Move.{Move}
use Rattle.dp_app.specs.declared.moves.Move.TheVariants.{Next, Jump, Enter, Park, Hang}
use Rattle.dp_app.specs.declared.phase.Phase.{Phase}
use Rattle.dp_app.specs.declared.phase.Phase.TheVariants.{Ready, Digits, Pause, Queued, Talking, Dialling, Ended}
use Rattle.dp_app.specs.declared.place.Place.{Place}
use Rattle.dp_reach.specs.Areas.{Area, Covers}
use Rattle.dp_pieces.specs.Bytes.{Bytes, Within}
use Rattle.dp_pieces.specs.Names.{Names}

-- a claim on a dialplan and its queues' settings: the bytes of values, and the areas that channels may be in
pub record Claim : Type 0 where
  pub plan : PlanOf
  pub settings : List Settings
  pub names : Names
  pub reach : List Area

-- a value, if there is one, has these bytes
abbrev pub IsHeld : Bytes → Option (List ℕ) → Type 0
IsHeld set None = Unit {0}
IsHeld set (Some value) = Within set value

-- each name of a map has its bytes
abbrev pub AreHeld : Names → Named → Type 0
AreHeld names values = (name : List ℕ) → IsHeld (names.bytes name) (get values name)

-- the values and the frames of a store keep to the claim
pub record KeepsToClaim (claim : Claim) (store : StoreOf Place) : Type 0 where
  pub variables : AreHeld claim.names store.variables
  pub locals : AllByRecursion (λ (frame : StoreFrame Place). AreHeld claim.names frame.locals) store.frames
  pub back : AllByRecursion (λ (frame : StoreFrame Place). Covers claim.plan claim.reach frame.back) store.frames

-- what an application may read and write keeps to the claim
pub record IsGood (claim : Claim) (cell : CellOf) : Type 0 where
  pub store : KeepsToClaim claim cell.store
  pub globals : AreHeld claim.names cell.globals
  pub caller : Within claim.names.caller cell.caller

-- the digits that a channel has dialled at a place, and where they and a time-out may lead
pub record IsDialled (claim : Claim) (place : Place) (digits : List ℕ) : Type 0 where
  pub text : Within is_digit digits
  pub leads : (exten : List ℕ) (priority : ℕ) → Within is_digit exten → Covers claim.plan claim.reach (place_of place.context exten priority)
  pub timeout : (priority : ℕ) → Covers claim.plan claim.reach (place_of place.context (codes "t") priority)

-- the context of the ways out of the queue with a number
abbrev pub way_of : List Settings → ℕ → List ℕ
way_of settings queue = unwrap_or (option_map (λ s. s.context) (slice_get settings queue)) []

-- a digit leads out of the queue with a number
abbrev pub LeadsOut : Claim → ℕ → Type 0
LeadsOut claim queue = (digit : ℕ) → is_digit digit ≡ true → Covers claim.plan claim.reach (place_of (way_of claim.settings queue) (digit ∷ []) 1)

-- where a phase may lead
abbrev pub IsPhaseIn : Claim → Place → Phase → Type 0
IsPhaseIn claim place Ready = Unit {0}
IsPhaseIn claim place (Digits digits is_background) = IsDialled claim place digits
IsPhaseIn claim place Pause = Unit {0}
IsPhaseIn claim place (Queued queue goes_on has_timer) = LeadsOut claim queue
IsPhaseIn claim place (Talking queue agent goes_on) = Unit {0}
IsPhaseIn claim place (Dialling goes_on has_timer) = Unit {0}
IsPhaseIn claim place Ended = Unit {0}

-- where a move may lead; a move that enters a place where nothing is found goes back to a frame, which returns into the reach anyhow
abbrev pub LeadsInto : Claim → Place → Move → Type 0
LeadsInto claim own Next = Unit {0}
LeadsInto claim own (Jump target) = (place : Place) → target_place claim.plan own target ≡ Some place → Covers claim.plan claim.reach place
LeadsInto claim own (Enter parts) = (place : Place) → if_found claim.plan (parts_place claim.plan own parts) ≡ Some place → Covers claim.plan claim.reach place
LeadsInto claim own (Park phase) = IsPhaseIn claim own phase
LeadsInto claim own Hang = Unit {0}

-- the result of an application keeps to the claim
pub record IsInside (claim : Claim) (own : Place) (outcome : Outcome) : Type 0 where
  pub cell : IsGood claim outcome.cell
  pub next : LeadsInto claim own outcome.next

-- a channel is in the reach
pub record IsChannelIn (claim : Claim) (c : Channel) : Type 0 where
  pub place : Covers claim.plan claim.reach c.place
  pub store : KeepsToClaim claim c.store
  pub caller : Within claim.names.caller c.caller
  pub phase : IsPhaseIn claim c.place c.phase

-- what all channels share keeps to the claim
pub record IsSharedIn (claim : Claim) (shared : SharedState) : Type 0 where
  pub globals : AreHeld claim.names shared.globals
  pub settings : map (λ queue. queue.settings) shared.queues.queues ≡ claim.settings
