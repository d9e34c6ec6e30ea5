-- The meaning of the line of an entry: `exten => name,priority[(label)],application` or `same => priority[(label)],application`.
--
-- A line is checked in this order, and its fault is the first one found: whether a `same` has an extension before it, and whether there are
-- enough commas; the name, from the left (`name_of`); the priority, where an unsupported word comes before a bad priority, then the label,
-- then an `n` without an earlier line, then the limit (`written_priority`, `number_after`); the application, where a comma comes before a
-- parenthesis (`application_of`), and its arguments last (`shallow_at`).
use Rattle.std.specs.Prelude.{ℕ, ◌+◌, Bool, false, ◌&&◌, ◌||◌, ◌==◌, nat_le, List, [], ◌∷◌, Option, Some, None, Result, Ok, Err, codes, if◌then◌else◌}
use Rattle.std.specs.List.{list_any, list_all}
use Rattle.std.specs.Option.{option_map}
use Rattle.std.specs.Str.{byte}
use Rattle.dp_conf.specs.Answers.{◌>>=◌}
use Rattle.dp_conf.specs.Blanks.{trim}
use Rattle.dp_conf.specs.Cut.{begins_with, cut_once}
use Rattle.dp_conf.specs.Numbers.{is_digit, number_of, most_priority}
use Rattle.dp_conf.specs.Shallow.{is_too_deep}
use Rattle.dp_conf.specs.Words.{same_text}
use Rattle.dp_pattern.specs.Name.{Meaning, meaning_of}
use Rattle.dp_pattern.specs.Spelling.{spelling}
use Rattle.dp_plan.specs.Faults.{at_line, name_at_line, plan_fault}
use Rattle.dp_plan.specs.History.{PlanHistory}
use Rattle.dp_plan.specs.declared.fault.Word.TheVariants.{Hint, CallerId, Variable, OldForm, PriorityWord}
use Rattle.dp_plan.specs.declared.fault.PlanKind.{PlanKind}
use Rattle.dp_plan.specs.declared.fault.PlanKind.TheVariants.{BadPriority, NoPrevious, BadLabel, BadApplication, LeftOut, TooDeep, NoExten, PriorityLimit, ShortLine}
use Rattle.dp_plan.specs.declared.fault.LoadFault.{LoadFault}
use Rattle.dp_plan.specs.declared.numbering.Written.{Written}
use Rattle.dp_plan.specs.declared.numbering.Written.TheVariants.{Number, TooGreat, Next}
use Rattle.dp_plan.specs.declared.numbering.Numbering.{Numbering}
use Rattle.dp_plan.specs.declared.application.ApplicationCall.{ApplicationCall}
use Rattle.dp_plan.specs.declared.entry.Entry.{Entry}

-- the text contains a `${`
abbrev pub has_variable : List ℕ → Bool
has_variable [] = false
has_variable (b ∷ bs) = (b == byte "$" && begins_with (byte "{") bs) || has_variable bs

-- the text without its last byte, if that is this byte
abbrev pub without_last : ℕ → List ℕ → Option (List ℕ)
without_last last [] = None
without_last last (b ∷ []) = if b == last then Some [] else None
without_last last (b ∷ c ∷ bs) = option_map (λ front. b ∷ front) (without_last last (c ∷ bs))

-- ---- the name

-- a name that has been read, unless its canonical spelling has a `${`
abbrev pub name_without_variable : ℕ → Meaning → Result Meaning LoadFault
name_without_variable line name = if has_variable (spelling name) then Err (plan_fault line (LeftOut Variable)) else Ok name

-- the name of a line: variables and callers' numbers are not supported, and are checked before the faults of names
unfoldable pub name_of : ℕ → List ℕ → Result Meaning LoadFault
name_of line text =
    if has_variable text then Err (plan_fault line (LeftOut Variable))
    else if list_any (λ b. b == byte "/") text then Err (plan_fault line (LeftOut CallerId))
    else name_at_line line (meaning_of text) >>= λ name. name_without_variable line name

-- the name of a line that continues the one before it
abbrev pub name_again : ℕ → Option Meaning → Result Meaning LoadFault
name_again line None = Err (plan_fault line NoExten)
name_again line (Some name) = Ok name

-- ---- the priority

-- the words and the sign that are not supported, except `hint`
abbrev pub is_priority_word : List ℕ → Bool
is_priority_word text =
    same_text text (codes "next") || same_text text (codes "s") || same_text text (codes "same")
    || list_any (λ b. b == byte "+") text

-- a number as a written priority, which may be too great
abbrev pub written_number : Option ℕ → Result Written PlanKind
written_number None = Err BadPriority
written_number (Some number) =
    if number == 0 then Err BadPriority else (if nat_le number most_priority then Ok (Number number) else Ok TooGreat)

-- a number or `n`, but not an unsupported word or sign
abbrev pub written_of : List ℕ → Result Written PlanKind
written_of text =
    if same_text text (codes "hint") then Err (LeftOut Hint)
    else if is_priority_word text then Err (LeftOut PriorityWord)
    else if same_text text (codes "n") then Ok Next
    else written_number (number_of text)

-- the text before the first `(` of a priority
abbrev pub before_label : List ℕ → Option (List ℕ × List ℕ) → List ℕ
before_label text None = text
before_label text (Some cut) = trim cut.0

-- the text has only digits
abbrev pub has_digits_alone : List ℕ → Bool
has_digits_alone text = list_all is_digit text

-- the text contains a parenthesis
abbrev pub has_parenthesis : List ℕ → Bool
has_parenthesis text = list_any (λ b. b == byte "(" || b == byte ")") text

-- a text that is not a label: an empty one, only digits, or one with a parenthesis
abbrev pub is_no_label : List ℕ → Bool
is_no_label text = has_digits_alone text || has_parenthesis text

-- the label of the text between the parentheses
abbrev pub label_within : Option (List ℕ) → Result (List ℕ) PlanKind
label_within None = Err BadLabel
label_within (Some text) = if is_no_label (trim text) then Err BadLabel else Ok (trim text)

-- the label of a priority that is cut at its first `(`, if there is one
abbrev pub label_of : Option (List ℕ × List ℕ) → Result (Option (List ℕ)) PlanKind
label_of None = Ok None
label_of (Some cut) = label_within (without_last (byte ")") cut.1) >>= λ label. Ok (Some label)

-- the number of a priority; `n` is one more than the last priority of the extension
abbrev pub number_after : Option ℕ → Written → Result ℕ PlanKind
number_after last (Number number) = Ok number
number_after last TooGreat = Err PriorityLimit
number_after None Next = Err NoPrevious
number_after (Some last) Next = if nat_le (last + 1) most_priority then Ok (last + 1) else Err PriorityLimit

-- a priority as written: its number or `n`, and its label
unfoldable pub written_priority : List ℕ → Result (Written × Option (List ℕ)) PlanKind
written_priority text =
    written_of (before_label text (cut_once (byte "(") text)) >>= λ written.
    label_of (cut_once (byte "(") text) >>= λ label. Ok (written, label)

-- a priority without a label
abbrev pub without_label : Result Written PlanKind → Result (Written × Option (List ℕ)) PlanKind
without_label written = written >>= λ written. Ok (written, None)

-- a priority that was read, as its number or `n` and its label
abbrev pub numbering_now : Numbering → Written × Option (List ℕ)
numbering_now numbering = (numbering.written, option_map (λ label. label.now) numbering.label)

-- ---- the application

-- the text between the `(` of an application and its final `)`, with the name of the application
abbrev pub called_with : List ℕ → Option (List ℕ) → Result (List ℕ × List ℕ) PlanKind
called_with [] arguments = Err BadApplication
called_with (b ∷ name) None = Err BadApplication
called_with (b ∷ name) (Some arguments) = Ok (b ∷ name, arguments)

-- the text before the first `(` of an application, and the text between that and a final `)`
abbrev pub application_parts : List ℕ → Option (List ℕ × List ℕ) → List ℕ × Option (List ℕ)
application_parts text None = (text, Some [])
application_parts text (Some cut) = (cut.0, without_last (byte ")") cut.1)

-- the application with those parts
abbrev pub application_by : List ℕ × Option (List ℕ) → Result (List ℕ × List ℕ) PlanKind
application_by parts =
    if list_any (λ b. b == byte ",") parts.0 then Err (LeftOut OldForm) else called_with (trim parts.0) parts.1

-- the name and the arguments of an application, `name` or `name(arguments)`
unfoldable pub application_of : List ℕ → Result (List ℕ × List ℕ) PlanKind
application_of text = application_by (application_parts text (cut_once (byte "(") text))

-- an application that was read, as its texts
abbrev pub called_now : Result ApplicationCall PlanKind → Result (List ℕ × List ℕ) PlanKind
called_now (Ok called) = Ok (called.name.now, called.arguments.now)
called_now (Err kind) = Err kind

-- a text that is expanded later, unless its groups are nested more deeply than is read then
abbrev pub shallow_at : ℕ → List ℕ → Result (List ℕ) LoadFault
shallow_at line text = if is_too_deep text then Err (plan_fault line TooDeep) else Ok text

-- ---- the line

-- the entry of a name with its priority and its application
abbrev pub entry_by : PlanHistory → ℕ → List ℕ → Meaning → List ℕ → List ℕ → Result Entry LoadFault
entry_by history line context name priority application =
    at_line line (written_priority priority) >>= λ written.
    at_line line (number_after (history.priority context name) written.0) >>= λ number.
    at_line line (application_of application) >>= λ called.
    shallow_at line called.1 >>= λ arguments.
    Ok (record { name = name; priority = number; label = written.1; application = called.0; arguments = arguments })

-- the same, if the name may be faulty
abbrev pub entry_of : PlanHistory → ℕ → List ℕ → Result Meaning LoadFault → List ℕ → List ℕ → Result Entry LoadFault
entry_of history line context name priority application =
    name >>= λ meaning. entry_by history line context meaning priority application

-- an `exten` line, given its name and the rest cut at the second comma
abbrev pub exten_rest : PlanHistory → ℕ → List ℕ → List ℕ → Option (List ℕ × List ℕ) → Result Entry LoadFault
exten_rest history line context name None = Err (plan_fault line ShortLine)
exten_rest history line context name (Some cut) =
    entry_of history line context (name_of line name) (trim cut.0) (trim cut.1)

-- the same, given the value cut at the first comma
abbrev pub exten_cut : PlanHistory → ℕ → List ℕ → Option (List ℕ × List ℕ) → Result Entry LoadFault
exten_cut history line context None = Err (plan_fault line ShortLine)
exten_cut history line context (Some cut) = exten_rest history line context (trim cut.0) (cut_once (byte ",") cut.1)

-- the entry that the value of an `exten` line writes
unfoldable pub exten_entry : PlanHistory → ℕ → List ℕ → List ℕ → Result Entry LoadFault
exten_entry history line context value = exten_cut history line context (cut_once (byte ",") value)

-- a `same` line, given the value cut at its comma
abbrev pub same_cut : PlanHistory → ℕ → List ℕ → Option (List ℕ × List ℕ) → Result Entry LoadFault
same_cut history line context None = name_again line history.name >>= λ name. Err (plan_fault line ShortLine)
same_cut history line context (Some cut) =
    entry_of history line context (name_again line history.name) (trim cut.0) (trim cut.1)

-- the entry that the value of a `same` line writes
unfoldable pub same_entry : PlanHistory → ℕ → List ℕ → List ℕ → Result Entry LoadFault
same_entry history line context value = same_cut history line context (cut_once (byte ",") value)
