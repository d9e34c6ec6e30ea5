-- The targets in the arguments of an entry, `[[context,]extension,]priority`, and whether they lead to an entry.
use Rattle.std.specs.Prelude.{ℕ, Bool, true, false, not, ◌&&◌, ◌||◌, ◌==◌, nat_le, List, [], ◌∷◌, ◌++◌, filter, Option, Some, None, codes, if◌then◌else◌}
use Rattle.std.specs.List.{list_any}
use Rattle.std.specs.Option.{option_map, option_map_or, option_to_list}
use Rattle.dp_conf.specs.Blanks.{trim}
use Rattle.dp_conf.specs.Cut.{cut_once}
use Rattle.dp_conf.specs.Levels.{arguments_of, cut_outside}
use Rattle.dp_conf.specs.Numbers.{number_of, most_priority}
use Rattle.dp_conf.specs.Words.{same_word}
use Rattle.dp_pattern.specs.Name.{Meaning, Plain, Pattern}
use Rattle.dp_plan.specs.Plan.{PlanOf}
use Rattle.dp_plan.specs.declared.entry.Entry.{Entry}
use Rattle.dp_vars.specs.Openings.{has_opening}
use Rattle.dp_audit.specs.Finders.{answers, has_label}
use Rattle.dp_audit.specs.declared.jump.Jump.{Jump}
use Rattle.dp_audit.specs.declared.jump.JumpParts.{JumpParts}
use Rattle.dp_audit.specs.declared.jump.Targets.{Targets}

-- how the application with a name jumps, if it does
abbrev pub jump_of : List ℕ → Option Jump
jump_of name =
    if same_word name (codes "Goto") then Some (record { is_choice = false; is_subroutine = false })
    else if same_word name (codes "GotoIf") then Some (record { is_choice = true; is_subroutine = false })
    else if same_word name (codes "Gosub") then Some (record { is_choice = false; is_subroutine = true })
    else if same_word name (codes "GosubIf") then Some (record { is_choice = true; is_subroutine = true })
    else None

-- a side of a choice; a side of blanks alone counts as absent
abbrev pub side : List ℕ → Option (List ℕ)
side [] = None
side (b ∷ bs) = Some (b ∷ bs)

-- the sides of a choice that are present
abbrev pub sides : Option (List ℕ) → Option (List ℕ) → List (List ℕ)
sides first second = option_to_list first ++ option_to_list second

-- the sides in the text after the `?`, which the first `:` outside parentheses separates
abbrev pub sides_by : List ℕ → Option (List ℕ × List ℕ) → List (List ℕ)
sides_by text None = sides (side (trim text)) None
sides_by text (Some cut) = sides (side (trim cut.0)) (side (trim cut.1))

-- the sides of `CONDITION?SIDE:SIDE`; the first `?` ends the condition
abbrev pub sides_of : Option (List ℕ × List ℕ) → List (List ℕ)
sides_of None = []
sides_of (Some cut) = sides_by cut.1 (cut_outside 58 cut.1)

-- the list of targets
abbrev pub texts_of_targets : Targets → List (List ℕ)
texts_of_targets targets = sides (option_map (λ text. text.now) targets.first) (option_map (λ text. text.now) targets.second)

-- the targets in the arguments of an application that jumps: the sides of a choice, or the whole arguments
abbrev pub targets_in : Jump → List ℕ → List (List ℕ)
targets_in jump arguments = if jump.is_choice then sides_of (cut_once 63 arguments) else trim arguments ∷ []

-- a target, in parts; a missing part is empty
pub record PartsOf : Type 0 where
  pub context : List ℕ
  pub exten : List ℕ
  pub priority : List ℕ

abbrev pub parts_of_jump : JumpParts → PartsOf
parts_of_jump parts = record { context = parts.context.now; exten = parts.exten.now; priority = parts.priority.now }

-- the last part of a target; for a subroutine, the part before its arguments
abbrev pub priority_by : List ℕ → Option (List ℕ × List ℕ) → List ℕ
priority_by part None = part
priority_by part (Some cut) = trim cut.0

abbrev pub priority_in : Bool → List ℕ → List ℕ
priority_in is_subroutine part = if is_subroutine then priority_by part (cut_once 40 part) else part

-- the parts of a target with one to three of them
abbrev pub parts_by : Bool → List (List ℕ) → Option PartsOf
parts_by is_subroutine [] = None
parts_by is_subroutine (a ∷ []) = Some (record { context = []; exten = []; priority = priority_in is_subroutine a })
parts_by is_subroutine (a ∷ b ∷ []) = Some (record { context = []; exten = a; priority = priority_in is_subroutine b })
parts_by is_subroutine (a ∷ b ∷ c ∷ []) = Some (record { context = a; exten = b; priority = priority_in is_subroutine c })
parts_by is_subroutine (a ∷ b ∷ c ∷ d ∷ parts) = None

-- the parts of a target's text
abbrev pub parts_of : Jump → List ℕ → Option PartsOf
parts_of jump text = parts_by jump.is_subroutine (arguments_of text)

-- whether a byte ends a group
abbrev pub ends_group : ℕ → Bool
ends_group byte = byte == 93 || byte == 125

-- whether a text is literal: no group begins or ends in it
abbrev pub stands : List ℕ → Bool
stands text = not (has_opening text || list_any ends_group text)

-- whether each part is literal; with more than three parts, whether the whole text is
abbrev pub parts_stand : List ℕ → Option PartsOf → Bool
parts_stand text None = stands text
parts_stand text (Some parts) = stands parts.context && stands parts.exten && stands parts.priority

-- a part if it is present, else the entry's own
abbrev pub part_or : List ℕ → List ℕ → List ℕ
part_or own [] = own
part_or own (b ∷ bs) = b ∷ bs

-- the only text that a plain name matches
abbrev pub plain_text : Meaning → Option (List ℕ)
plain_text (Plain text) = Some text
plain_text (Pattern classes tail) = None

-- the extension of a target: the given one, or the entry's own if its name is plain
abbrev pub exten_of : Meaning → List ℕ → Option (List ℕ)
exten_of name [] = plain_text name
exten_of name (b ∷ bs) = Some (b ∷ bs)

-- whether the number is a priority at which an entry answers
abbrev pub number_leads : PlanOf → List ℕ → List ℕ → ℕ → Bool
number_leads plan context exten number = nat_le 1 number && nat_le number most_priority && answers plan context exten number

-- whether a text names a priority that is found in an extension of a context: the number that it writes, else a label
abbrev pub leads_by : PlanOf → List ℕ → List ℕ → List ℕ → Option ℕ → Bool
leads_by plan context exten text None = has_label plan context exten text
leads_by plan context exten text (Some number) = number_leads plan context exten number

-- whether a text names a priority that is found; an empty text names none
abbrev pub priority_leads : PlanOf → List ℕ → List ℕ → List ℕ → Bool
priority_leads plan context exten [] = false
priority_leads plan context exten (b ∷ bs) = leads_by plan context exten (b ∷ bs) (number_of (b ∷ bs))

-- whether the parts lead to an entry, from an entry with this name in this context; an extension that a pattern matches is not checked
abbrev pub parts_lead : PlanOf → List ℕ → Meaning → PartsOf → Bool
parts_lead plan context name parts =
    option_map_or (λ exten. priority_leads plan (part_or context parts.context) exten parts.priority) (exten_of name parts.exten) true

-- whether an optional target leads to an entry; a target without one to three parts leads nowhere
abbrev pub leads : PlanOf → List ℕ → Meaning → Option PartsOf → Bool
leads plan context name None = false
leads plan context name (Some parts) = parts_lead plan context name parts

-- a text if there is one and it passes the test
abbrev pub if_passes : (List ℕ → Bool) → Option (List ℕ) → Option (List ℕ)
if_passes test None = None
if_passes test (Some text) = if test text then Some text else None

-- whether a target is literal and leads nowhere
abbrev pub is_missing : PlanOf → List ℕ → Meaning → Jump → List ℕ → Bool
is_missing plan context name jump text = parts_stand text (parts_of jump text) && not (leads plan context name (parts_of jump text))

-- the targets of an entry that are literal and lead nowhere, in the order of its arguments
abbrev pub missing_by : PlanOf → List ℕ → Entry → Option Jump → List (List ℕ)
missing_by plan context entry None = []
missing_by plan context entry (Some jump) = filter (is_missing plan context entry.name jump) (targets_in jump entry.arguments)

unfoldable pub missing_targets : PlanOf → List ℕ → Entry → List (List ℕ)
missing_targets plan context entry = missing_by plan context entry (jump_of entry.application)
