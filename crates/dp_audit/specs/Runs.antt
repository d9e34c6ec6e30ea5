-- Where jumps, and applications that always go on at once, lead a call from its place, whatever entries it meets there.
use Rattle.std.specs.Prelude.{◌≡◌, ℕ, ◌+◌, Bool, List, Option, None, Some, codes, if◌then◌else◌}
use Rattle.std.specs.Option.{option_and_then, option_map}
use Rattle.dp_conf.specs.Blanks.{trim}
use Rattle.dp_conf.specs.Words.{same_word}
use Rattle.dp_lookup.specs.FoundEntry.{found_entry}
use Rattle.dp_lookup.specs.SearchOrder.{search_order}
use Rattle.dp_plan.specs.Lookup.{entry_at}
use Rattle.dp_plan.specs.Plan.{PlanOf}
use Rattle.dp_plan.specs.declared.entry.Entry.{Entry}
use Rattle.dp_plan.specs.declared.entry.EntryId.{EntryId}
use Rattle.dp_audit.specs.Loops.{goto, home_entry, priority_of}
use Rattle.dp_audit.specs.Targets.{PartsOf, part_or, parts_of, parts_stand}

-- the place of a call: the context that it searches, what was dialled, and a priority
pub record CallPlace : Type 0 where
  pub context : List ℕ
  pub exten : List ℕ
  pub priority : ℕ

-- the entry that a call meets at its place
abbrev pub place_entry : PlanOf → CallPlace → Option EntryId
place_entry plan place = found_entry plan (search_order plan place.context) place.exten place.priority

-- the place to which the parts of a target lead; a missing part is the call's own
abbrev pub place_by_parts : PlanOf → CallPlace → PartsOf → Option CallPlace
place_by_parts plan place parts =
    option_map (λ priority. record { context = part_or place.context parts.context; exten = part_or place.exten parts.exten; priority = priority })
    (priority_of plan (part_or place.context parts.context) (part_or place.exten parts.exten) parts.priority)

-- the place to which a literal target leads
abbrev pub place_by_target : PlanOf → CallPlace → List ℕ → Option CallPlace
place_by_target plan place target =
    if parts_stand target (parts_of goto target) then option_and_then (place_by_parts plan place) (parts_of goto target) else None

-- the place to which an entry leads a call that meets it
abbrev pub place_after : (List ℕ → Bool) → PlanOf → CallPlace → Entry → Option CallPlace
place_after onward plan place entry =
    if same_word entry.application (codes "Goto") then place_by_target plan place (trim entry.arguments)
    else if onward entry.application then Some (record place { priority = place.priority + 1 })
    else None

-- the next place of a call
abbrev pub next_place : (List ℕ → Bool) → PlanOf → CallPlace → Option CallPlace
next_place onward plan place = option_and_then (λ id. option_and_then (place_after onward plan place) (entry_at plan id)) (place_entry plan place)

-- a call at the place meets the entry, which belongs to the context that the call searches and has a plain name
abbrev pub MeetsHome : PlanOf → CallPlace → EntryId → Type 0
MeetsHome plan place id = home_entry plan place.context place.exten place.priority ≡ Some id
