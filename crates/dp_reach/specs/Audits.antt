-- The claim of an audit: where phone calls come in, and what they may run.
use Rattle.std.specs.Prelude.{◌≡◌, ℕ, Bool, List, [], ◌∷◌, ◌++◌, map, ◌⊎◌}
use Rattle.std.specs.List.{AllByRecursion}
use Rattle.dp_plan.specs.Plan.{PlanOf}
use Rattle.dp_plan.specs.declared.entry.EntryId.{EntryId}
use Rattle.dp_plan.specs.declared.plan.GlobalVariable.{GlobalVariable}
use Rattle.dp_queue.specs.Queues.{QueuesOf}
use Rattle.dp_queue.specs.declared.settings.Settings.{Settings}
use Rattle.dp_vars.specs.Sights.{Sight}
use Rattle.dp_vars.specs.Values.{expansion_with}
use Rattle.dp_app.specs.Rows.{Meanings}
use Rattle.dp_machine.specs.Events.{event_row}
use Rattle.dp_machine.specs.Replay.{final_world, world_after}
use Rattle.dp_machine.specs.World.{opening_with}
use Rattle.dp_machine.specs.declared.event.Event.{Event}
use Rattle.dp_machine.specs.declared.event.Event.TheVariants.{Start, Step, Digit, Timeout, Poll, Hangup, DialResult, Offer, Answer, Decline, AgentDone, Reload, Assign, Redirect}
use Rattle.dp_machine.specs.declared.reply.Reply.TheVariants.{Started}
use Rattle.dp_reach.specs.Areas.{Area, Includes, area_at}
use Rattle.dp_reach.specs.Bounds.{Obligations}
use Rattle.dp_pieces.specs.Bytes.{Bytes, IsPart, Within}
use Rattle.dp_pieces.specs.Names.{IsWithin, Names}
use Rattle.dp_pieces.specs.Pieces.{exactly, any_bytes_of}
use Rattle.dp_reach.specs.Closed.{IsClosed}
use Rattle.dp_reach.specs.Holding.{Claim}
use Rattle.dp_reach.specs.Runs.{RunsWithin, with_reach}

-- everything that may come in: the bytes of an extension, of a caller's number and of what names are set to, and the contexts
pub record Outside : Type 0 where
  pub exten : Bytes
  pub caller : Bytes
  pub facts : Bytes
  pub contexts : List (List ℕ)

abbrev pub IsOneOf : List (List ℕ) → List ℕ → Type 0
IsOneOf [] text = ⊥
IsOneOf (name ∷ names) text = (text ≡ name) ⊎ IsOneOf names text

-- an event in which only such calls come in, names are set to such values only, no other dialplan is loaded and no channel is sent from
-- outside
abbrev pub IsFromOutside : Outside → Event → Type 0
IsFromOutside outside (Start context exten caller) = IsOneOf outside.contexts context × Within outside.exten exten × Within outside.caller caller
IsFromOutside outside (Step number) = Unit {0}
IsFromOutside outside (Digit number digit) = Unit {0}
IsFromOutside outside (Timeout number) = Unit {0}
IsFromOutside outside (Poll number) = Unit {0}
IsFromOutside outside (Hangup number) = Unit {0}
IsFromOutside outside (DialResult number status) = Unit {0}
IsFromOutside outside (Offer queue) = Unit {0}
IsFromOutside outside (Answer agent) = Unit {0}
IsFromOutside outside (Decline agent) = Unit {0}
IsFromOutside outside (AgentDone agent) = Unit {0}
IsFromOutside outside (Reload text) = ⊥
IsFromOutside outside (Assign channel name value) = Within outside.facts value
IsFromOutside outside (Redirect number place) = ⊥

-- the area where such a call comes in
abbrev pub entrance : Outside → List ℕ → Area
entrance outside context = area_at (exactly context) (any_bytes_of outside.exten)

-- the names that the value of a global reads: there is no channel, so no extension and no context
abbrev pub names_outside : Names → Names
names_outside names = record names { exten = []; context = [] }

-- a global has at first only the bytes of its name
abbrev pub IsGlobalWithin : Obligations → Names → GlobalVariable → Type 0
IsGlobalWithin owing names variable = (sight : Sight) → IsWithin (names_outside names) sight
    → Within (names.bytes variable.name) (expansion_with owing.functions sight variable.value)

-- an audit is closed, both for all calls and for those that come in at the context
pub record IsAudit (owing : Obligations) (outside : Outside) (context : List ℕ) (claim : Claim) (others : EntryId → Bool) (reach : List Area) (answers : EntryId → Bool) : Type 0 where
  pub all : IsClosed owing claim others
  pub own : IsClosed owing (with_reach claim reach) answers
  pub calls : AllByRecursion (λ name. Includes claim.plan claim.reach (entrance outside name)) outside.contexts
  pub call : Includes claim.plan reach (entrance outside context)
  pub caller : IsPart outside.caller claim.names.caller
  pub facts : (name : List ℕ) → IsPart outside.facts (claim.names.bytes name)
  pub stated : IsPart outside.facts claim.names.caller
  pub globals : AllByRecursion (IsGlobalWithin owing claim.names) claim.plan.globals

-- in a run from the start with the dialplan and queues of these settings, a call that comes in at the context runs only these entries
abbrev pub RunsOnly : Meanings → Outside → List ℕ → PlanOf → List Settings → (EntryId → Bool) → Type 0
RunsOnly meanings outside context plan settings answers = (queues : QueuesOf) (before later : List Event) (exten caller : List ℕ) (number : ℕ)
    → map (λ queue. queue.settings) queues.queues ≡ settings
    → AllByRecursion (IsFromOutside outside) (before ++ Start context exten caller ∷ later)
    → (event_row meanings (world_after meanings (opening_with meanings.functions plan queues) before) (Start context exten caller)).1 ≡ Started number
    → RunsWithin meanings answers number (final_world meanings (world_after meanings (opening_with meanings.functions plan queues) before) (Start context exten caller)) later
