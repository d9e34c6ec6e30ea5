-- Where the parts of a target send a channel: `[[context,]extension,]priority`.
use Rattle.std.specs.Prelude.{ℕ, ◌+◌, ◌&&◌, nat_le, List, [], ◌∷◌, length, Option, Some, None, slice_get, reverse, if◌then◌else◌}
use Rattle.std.specs.Option.{option_and_then, option_map}
use Rattle.dp_conf.specs.Numbers.{number_of, most_priority}
use Rattle.dp_plan.specs.Plan.{PlanOf}
use Rattle.dp_app.specs.declared.target.Target.{Target}
use Rattle.dp_app.specs.declared.target.Target.TheVariants.{To, Existing, Parts}
use Rattle.dp_app.specs.declared.place.Place.{Place}
use Rattle.dp_machine.specs.Found.{is_found, label_found}

-- a part of a target; an empty part means the channel's own
abbrev pub part_or : List ℕ → List ℕ → List ℕ
part_or own [] = own
part_or own (b ∷ bs) = b ∷ bs

-- a number that a target may have; above the greatest priority it names a place where no entry can be
abbrev pub target_priority : ℕ → Option ℕ
target_priority number = if nat_le 1 number && nat_le number (most_priority + 1) then Some number else None

-- the priority that a text names in an extension of a context, given the number that it writes: that number, else the priority of the label
abbrev pub priority_by : PlanOf → List ℕ → List ℕ → List ℕ → Option ℕ → Option ℕ
priority_by plan context exten text None = label_found plan context exten text
priority_by plan context exten text (Some number) = target_priority number

-- the priority that a text names in an extension of a context; an empty text names none
abbrev pub priority_of : PlanOf → List ℕ → List ℕ → List ℕ → Option ℕ
priority_of plan context exten [] = None
priority_of plan context exten (b ∷ bs) = priority_by plan context exten (b ∷ bs) (number_of (b ∷ bs))

-- the place of a context, an extension and a priority
abbrev pub place_of : List ℕ → List ℕ → ℕ → Place
place_of context exten priority = record { context = context; exten = exten; priority = priority }

-- the place that a text names in an extension of a context
abbrev pub place_by : PlanOf → List ℕ → List ℕ → List ℕ → Option Place
place_by plan context exten priority = option_map (place_of context exten) (priority_of plan context exten priority)

-- a part that is given, or the channel's own
abbrev pub given_or : List ℕ → Option (List ℕ) → List ℕ
given_or own None = own
given_or own (Some part) = part_or own part

-- the extension of a target: its second part from the end, or the channel's own
abbrev pub parts_exten : Place → List (List ℕ) → List ℕ
parts_exten own parts = given_or own.exten (slice_get (reverse parts) 1)

-- the context of a target: its third part from the end, or the channel's own
abbrev pub parts_context : Place → List (List ℕ) → List ℕ
parts_context own parts = given_or own.context (slice_get (reverse parts) 2)

-- the place that one to three parts name, for a channel at its own place; the last part is the priority
unfoldable pub parts_place : PlanOf → Place → List (List ℕ) → Option Place
parts_place plan own parts =
    if nat_le (length parts) 3 then option_and_then (place_by plan (parts_context own parts) (parts_exten own parts)) (slice_get (reverse parts) 0)
    else None

-- a place if an entry is found there
abbrev pub if_found : PlanOf → Option Place → Option Place
if_found plan None = None
if_found plan (Some place) = if is_found plan place.context place.exten place.priority then Some place else None

-- the place of a target
abbrev pub target_place : PlanOf → Place → Target → Option Place
target_place plan own (To place) = Some place
target_place plan own (Existing parts) = if_found plan (parts_place plan own parts)
target_place plan own (Parts parts) = parts_place plan own parts
