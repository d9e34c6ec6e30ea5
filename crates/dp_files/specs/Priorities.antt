-- The written form of the priority of an `exten` or `same` line: `hint`, or a base, an added number, and a label.
use Rattle.std.specs.Prelude.{ℕ, Bool, ◌||◌, ◌==◌, nat_le, List, [], ◌∷◌, Option, Some, None, codes, if◌then◌else◌}
use Rattle.std.specs.List.{list_any, list_all}
use Rattle.std.specs.Option.{option_map, option_and_then}
use Rattle.std.specs.Str.{byte}
use Rattle.dp_conf.specs.Blanks.{trim}
use Rattle.dp_conf.specs.Cut.{cut_once}
use Rattle.dp_conf.specs.Numbers.{is_digit, number_of, most_priority}
use Rattle.dp_conf.specs.Words.{same_word}

-- the base of a priority: a plain number, the priority after that of the last line, that of the last line, or that of a label
pub data BaseOf : Type 0 where
  Number : ℕ → BaseOf
  Next : BaseOf
  Same : BaseOf
  Label : List ℕ → BaseOf

-- `hint`, or a base and the number after a `+`
pub data WrittenBaseOf : Type 0 where
  Hint : WrittenBaseOf
  Counted : BaseOf → Option ℕ → WrittenBaseOf

-- a priority with the label after it
pub record WrittenPriorityOf : Type 0 where
  pub written : WrittenBaseOf
  pub label : Option (List ℕ)

-- a number that is at most the greatest priority
abbrev pub within_limit : ℕ → Option ℕ
within_limit number = if nat_le number most_priority then Some number else None

-- ---- the counting

-- `n` and `next`, `s` and `same`, in any case, and any other word as a label
abbrev pub word_base : List ℕ → BaseOf
word_base text =
    if same_word text (codes "n") || same_word text (codes "next") then Next
    else if same_word text (codes "s") || same_word text (codes "same") then Same
    else Label text

-- a plain number is a priority
abbrev pub number_base : ℕ → Option BaseOf
number_base number = if number == 0 then None else option_map Number (within_limit number)

-- digits, or a word
abbrev pub base_by : List ℕ → Option ℕ → Option BaseOf
base_by text None = Some (word_base text)
base_by text (Some number) = number_base number

-- the base that the text writes
abbrev pub base_of : List ℕ → Option BaseOf
base_of text = base_by text (number_of text)

-- the number after a `+`
abbrev pub added_number : List ℕ → Option ℕ
added_number text = option_and_then within_limit (number_of text)

-- a base, or a text cut at the first `+`: a base and the added number
abbrev pub base_with_added : List ℕ → Option (List ℕ × List ℕ) → Option WrittenBaseOf
base_with_added text None = option_map (λ base. Counted base None) (base_of text)
base_with_added text (Some cut) =
    option_and_then (λ base. option_map (λ more. Counted base (Some more)) (added_number (trim cut.1))) (base_of (trim cut.0))

-- a priority without its label
unfoldable pub written_of : List ℕ → Option WrittenBaseOf
written_of text = if same_word text (codes "hint") then Some Hint else base_with_added text (cut_once (byte "+") text)

-- ---- the label

-- the text without its last byte, if that is this byte
abbrev pub without_last : ℕ → List ℕ → Option (List ℕ)
without_last last [] = None
without_last last (b ∷ []) = if b == last then Some [] else None
without_last last (b ∷ c ∷ bs) = option_map (λ front. b ∷ front) (without_last last (c ∷ bs))

-- the text contains a parenthesis
abbrev pub has_parenthesis : List ℕ → Bool
has_parenthesis text = list_any (λ b. b == byte "(" || b == byte ")") text

-- a text that is not a label: an empty one, only digits, or one with a parenthesis
abbrev pub is_no_label : List ℕ → Bool
is_no_label text = list_all is_digit text || has_parenthesis text

-- the text as a label
abbrev pub label_named : List ℕ → Option (List ℕ)
label_named text = if is_no_label text then None else Some text

-- the label, given the text after the first `(`
unfoldable pub label_within : List ℕ → Option (List ℕ)
label_within text = option_and_then (λ inside. label_named (trim inside)) (without_last (byte ")") text)

-- ---- the priority

-- a text cut at the first `(`: a priority, and its label
abbrev pub priority_by : List ℕ → Option (List ℕ × List ℕ) → Option WrittenPriorityOf
priority_by text None = option_map (λ written. record { written = written; label = None }) (written_of text)
priority_by text (Some cut) =
    option_and_then (λ written. option_map (λ label. record { written = written; label = Some label }) (label_within cut.1))
    (written_of (trim cut.0))

-- the priority that the text writes, or None if it is malformed
unfoldable pub priority_of : List ℕ → Option WrittenPriorityOf
priority_of text = priority_by text (cut_once (byte "(") text)
