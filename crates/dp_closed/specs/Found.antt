-- Entries that are not found from an area, given the entries of their context.
use Rattle.std.specs.Prelude.{◌≡◌, ℕ, List, MatchOption, Some, slice_get}
use Rattle.std.specs.declared.cmp.Ordering.TheVariants.{Less}
use Rattle.std.specs.Option.{option_map}
use Rattle.dp_closed.specs.Shown.{shown_area}
use Rattle.dp_closed.specs.declared.finding.Meeting.{Meeting}
use Rattle.dp_pattern.specs.Matches.{Matches}
use Rattle.dp_pattern.specs.Name.{Meaning}
use Rattle.dp_pattern.specs.Order.{name_cmp}
use Rattle.dp_pieces.specs.Pieces.{Fits, PieceOf}
use Rattle.dp_plan.specs.Plan.{PlanOf}
use Rattle.dp_plan.specs.declared.entry.Entry.{Entry}
use Rattle.dp_plan.specs.declared.entry.EntryId.{EntryId}
use Rattle.dp_reach.specs.Areas.{Area, area_at, area_matched}
use Rattle.dp_reach.specs.Finding.{MayFind}

-- the other entry has the same priority and a better name, which each text of the shape matches
pub record Hides (met : List PieceOf) (entry other : Entry) : Type 0 where
  pub priority : other.priority ≡ entry.priority
  pub less : name_cmp other.name entry.name ≡ Less
  pub covers : (text : List ℕ) → Fits met text → Matches other.name text

-- in no dialplan with these entries in a context is the entry found there at an extension of the shape
abbrev pub IsUnfound : List Entry → Entry → List PieceOf → Type 0
IsUnfound entries entry exten = (plan : PlanOf) (context : List PieceOf) (id : EntryId)
    → option_map (λ c. c.entries) (slice_get plan.contexts id.context) ≡ Some entries → MayFind plan (area_at context exten) id entry → ⊥

-- no extension of the shape matches the name
abbrev pub IsUnmatched : List PieceOf → Meaning → Type 0
IsUnmatched exten name = (text : List ℕ) → Fits exten text → Matches name text → ⊥

-- the meeting shows how its name meets the area: no extension matches, or what is known of those that do
abbrev pub IsMeeting : Area → Meeting → Type 0
IsMeeting area meeting = MatchOption meeting.met (IsUnmatched area.exten meeting.name.now) (λ met. shown_area met ≡ area_matched area meeting.name.now)
