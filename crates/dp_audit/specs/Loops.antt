-- Endless runs in a dialplan: jumps, and applications that always go on at once, lead a call from an entry back to it.
use Rattle.std.specs.Prelude.{◌≡◌, ℕ, zero, suc, ◌+◌, ◌↔◌, ◌==◌, nat_le, nat_lt, Bool, true, false, ◌&&◌, ◌||◌, List, [], ◌∷◌, Option, None, Some, codes, if◌then◌else◌}
use Rattle.std.specs.List.{flat_map, range_with_len}
use Rattle.std.specs.Option.{option_and_then, option_map_or}
use Rattle.dp_conf.specs.Blanks.{trim}
use Rattle.dp_conf.specs.Numbers.{most_priority, number_of as number_in}
use Rattle.dp_conf.specs.Words.{same_word}
use Rattle.dp_lookup.specs.FoundEntry.{entries_at, found_entry, found_label, passes}
use Rattle.dp_lookup.specs.SearchOrder.{context_count, search_order}
use Rattle.dp_pattern.specs.Name.{Meaning, Plain, Pattern}
use Rattle.dp_plan.specs.Lookup.{entry_at, number_of}
use Rattle.dp_plan.specs.Plan.{PlanOf}
use Rattle.dp_plan.specs.Ranking.{ids_of}
use Rattle.dp_plan.specs.declared.entry.Entry.{Entry}
use Rattle.dp_plan.specs.declared.entry.EntryId.{EntryId}
use Rattle.dp_audit.specs.Findings.{context_name}
use Rattle.dp_audit.specs.Targets.{PartsOf, part_or, parts_of, parts_stand}
use Rattle.dp_audit.specs.declared.jump.Jump.{Jump}
use Rattle.dp_audit.specs.declared.loops.Loop.{Loop}

-- ---- where a call goes from an entry in any case

-- whether the entry with these numbers belongs to the context with the name
abbrev pub is_of : PlanOf → List ℕ → EntryId → Bool
is_of plan context id = option_map_or (λ number. number == id.context) (number_of plan context) false

abbrev pub is_plain : Meaning → Bool
is_plain (Plain text) = true
is_plain (Pattern classes tail) = false

-- whether the entry with these numbers has a plain name
abbrev pub has_plain_name : PlanOf → EntryId → Bool
has_plain_name plan id = passes plan (λ entry. is_plain entry.name) id

-- the entry, if it belongs to the context that is searched and has a plain name: a call that meets it is at the entry's own place
abbrev pub if_home : PlanOf → List ℕ → EntryId → Option EntryId
if_home plan context id = if is_of plan context id && has_plain_name plan id then Some id else None

-- the entry that a call meets at a place, if that is the entry's own place
abbrev pub home_entry : PlanOf → List ℕ → List ℕ → ℕ → Option EntryId
home_entry plan context exten priority = option_and_then (if_home plan context) (found_entry plan (search_order plan context) exten priority)

-- the number, if it is a priority
abbrev pub if_priority : ℕ → Option ℕ
if_priority number = if nat_le 1 number && nat_le number most_priority then Some number else None

-- the priority that a text names, given the number that it writes: that number, else the priority of the label
abbrev pub priority_by : PlanOf → List ℕ → List ℕ → List ℕ → Option ℕ → Option ℕ
priority_by plan context exten text None = found_label plan (search_order plan context) exten text
priority_by plan context exten text (Some number) = if_priority number

-- the priority that a text names; an empty text names none
abbrev pub priority_of : PlanOf → List ℕ → List ℕ → List ℕ → Option ℕ
priority_of plan context exten [] = None
priority_of plan context exten (b ∷ bs) = priority_by plan context exten (b ∷ bs) (number_in (b ∷ bs))

-- the entry at the priority that a text names
abbrev pub entry_at_text : PlanOf → List ℕ → List ℕ → List ℕ → Option EntryId
entry_at_text plan context exten text = option_and_then (home_entry plan context exten) (priority_of plan context exten text)

-- the entry to which the parts of a target lead from an extension of a context
abbrev pub entry_by_parts : PlanOf → List ℕ → List ℕ → PartsOf → Option EntryId
entry_by_parts plan own text parts = entry_at_text plan (part_or own parts.context) (part_or text parts.exten) parts.priority

-- how `Goto` jumps
abbrev pub goto : Jump
goto = record { is_choice = false; is_subroutine = false }

-- the entry to which a literal target leads; nothing is known of a computed target
abbrev pub entry_by_target : PlanOf → List ℕ → List ℕ → List ℕ → Option EntryId
entry_by_target plan own text target =
    if parts_stand target (parts_of goto target) then option_and_then (entry_by_parts plan own text) (parts_of goto target) else None

-- the entry to which a call goes from an entry with a plain name in a context: by `Goto`, or after an application that always goes on
abbrev pub entry_after : (List ℕ → Bool) → PlanOf → List ℕ → List ℕ → Entry → Option EntryId
entry_after onward plan own text entry =
    if same_word entry.application (codes "Goto") then entry_by_target plan own text (trim entry.arguments)
    else if onward entry.application then home_entry plan own text (entry.priority + 1)
    else None

-- the entry after an entry, given the meaning of its name; nothing is known after a pattern, because many texts meet it
abbrev pub successor_by : (List ℕ → Bool) → PlanOf → List ℕ → Entry → Meaning → Option EntryId
successor_by onward plan own entry (Plain text) = entry_after onward plan own text entry
successor_by onward plan own entry (Pattern classes tail) = None

-- the entry to which a call goes from the entry with these numbers
abbrev pub successor : (List ℕ → Bool) → PlanOf → EntryId → Option EntryId
successor onward plan id =
    option_and_then (λ entry. successor_by onward plan (context_name plan id.context) entry entry.name) (entry_at plan id)

-- ---- loops

-- where so many steps lead
abbrev pub after : {X : Type 0} → (X → Option X) → ℕ → X → Option X
after step zero x = Some x
after step (suc count) x = option_and_then (after step count) (step x)

-- one or more steps lead back to the element, and none lead to an element before it
pub record IsFirstOfLoop {X : Type 0} (step : X → Option X) (before : X → X → Bool) (x : X) : Type 0 where
  pub count : ℕ
  pub again : after step (suc count) x ≡ Some x
  pub first : (steps : ℕ) (other : X) → after step steps x ≡ Some other → before other x ≡ false

-- whether the entry is before another in the file
abbrev pub is_before : EntryId → EntryId → Bool
is_before a b = nat_lt a.context b.context || a.context == b.context && nat_lt a.entry b.entry

-- a call that meets the entry comes back to it, and meets no entry before it in the file
abbrev pub IsLoop : (List ℕ → Bool) → PlanOf → EntryId → Type 0
IsLoop onward plan id = IsFirstOfLoop (successor onward plan) is_before id

-- ---- the list of loops

-- the loop with this first entry
abbrev pub loop_of : EntryId → Loop
loop_of id = record { first = id }

-- the loop of the entry, if it passes the test
abbrev pub loop_if : (EntryId → Bool) → EntryId → List Loop
loop_if test id = if test id then loop_of id ∷ [] else []

-- the loops of the entries that pass the test in the context with a number, in the order of the file
abbrev pub loops_of_context : (EntryId → Bool) → PlanOf → ℕ → List Loop
loops_of_context test plan number = flat_map (loop_if test) (ids_of number (entries_at plan number))

-- the loops of all contexts
abbrev pub loops_by : (EntryId → Bool) → PlanOf → List Loop
loops_by test plan = flat_map (loops_of_context test plan) (range_with_len 0 (context_count plan))

-- the list has exactly the first entry of each loop, in the order of the file
pub record ListsLoops (onward : List ℕ → Bool) (plan : PlanOf) (loops : List Loop) : Type 0 where
  pub test : EntryId → Bool
  pub decides : (id : EntryId) → (test id ≡ true) ↔ IsLoop onward plan id
  pub listed : loops ≡ loops_by test plan
