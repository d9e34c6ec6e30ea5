-- The entries in the answer, given as marks, and everything that may come in.
use Rattle.std.specs.Prelude.{◌==◌, ◌&&◌, Bool, true, false, List, Option, None, Some, is_some, map, slice_get, unwrap_or}
use Rattle.std.specs.Global.{Vec}
use Rattle.std.specs.Option.{option_and_then}
use Rattle.dp_closed.specs.declared.outside.KeptOutside.{KeptOutside}
use Rattle.dp_pieces.specs.Sets.{set_by}
use Rattle.dp_plan.specs.declared.entry.EntryId.{EntryId}
use Rattle.dp_reach.specs.Audits.{Outside}

-- the mark at the place of an entry, given the number of its context and its own
abbrev pub mark_at : List (Vec Bool) → EntryId → Option Bool
mark_at marks id = option_and_then (λ (row : Vec Bool). slice_get row.items id.entry) (slice_get marks id.context)

-- whether the marks have a place for the entry
abbrev pub has_place : List (Vec Bool) → EntryId → Bool
has_place marks id = is_some (mark_at marks id)

-- whether the entry is marked; an entry without a place is not
abbrev pub is_marked : List (Vec Bool) → EntryId → Bool
is_marked marks id = unwrap_or (mark_at marks id) false

-- whether both are the same entry
abbrev pub is_same : EntryId → EntryId → Bool
is_same a b = a.context == b.context && a.entry == b.entry

-- the entries in the answer: the marked ones, or all without marks
abbrev pub answers_in : Option (List (Vec Bool)) → EntryId → Bool
answers_in None id = true
answers_in (Some marks) id = is_marked marks id

-- everything that may come in, as sets and names
abbrev pub shown_outside : KeptOutside → Outside
shown_outside outside = record {
  exten = set_by outside.exten;
  caller = set_by outside.caller;
  facts = set_by outside.facts;
  contexts = map (λ name. name.items) outside.contexts.items;
}
