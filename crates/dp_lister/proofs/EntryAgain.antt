-- The line of an entry is read as the same entry.
use Rattle.std.proofs.Common.{◌≡◌, ℕ, ◌+◌, ◌*◌, ◌<◌, ◌≤◌, ◌^◌, true, false, ◌&&◌, ◌==◌, eqb, nat_le, List, [], ◌∷◌, ◌++◌, fold, length, Option, Some, None, Ok, decimal, refl, ap, ◌∙◌, sym, subst, arith, append_assoc, append-nil}
use Rattle.std.specs.List.{AllByRecursion, list_any, list_all}
use Rattle.std.specs.Char.{digit_value}
use Rattle.std.specs.Str.Parse.{AllDigits, digits_value_after, digits_value}
use Rattle.std.proofs.lemmas.Bool.Decides.{nat_tests}
use Rattle.std.proofs.lemmas.Fmt.{decimal_is_IsNumeral}
use Rattle.std.proofs.lemmas.Str.{digit_value_digit}
use Rattle.std.proofs.lemmas.Str.Parse.{digit_from_value}
use Rattle.dp_conf.specs.Blanks.{is_blank}
use Rattle.dp_conf.specs.Numbers.{is_digit, with_digit, digits_number, most_priority}
use Rattle.dp_conf.proofs.TextLemmas.{Avoids, each-append, each-weaker, any-none, none-any, IsTrimmed, trim-trimmed, trimmed-firm, trimmed-between, BeginsFirm, trim_end-after, cut_once-here, cut_once-nowhere}
use Rattle.dp_pattern.specs.Name.{Meaning, is_bad, IsName}
use Rattle.dp_pattern.specs.Spelling.{spelling}
use Rattle.dp_pattern.proofs.SpelledBytes.{spells_cleanly}
use Rattle.dp_pattern.proofs.SpellingLemmas.{spelled_again}
use Rattle.dp_plan.specs.EntryLine.{without_last, name_of, written_of, label_within, written_priority, application_of, entry_by, exten_entry}
use Rattle.dp_plan.specs.History.{PlanHistory}
use Rattle.dp_plan.specs.Priority.{IsPriority}
use Rattle.dp_plan.specs.declared.entry.Entry.{Entry}
use Rattle.dp_plan.proofs.ItemWords.{number as Number}
use Rattle.dp_plan.proofs.PartsKnown.{IsExtension, IsLabel, IsLabelled, IsApplication, IsEntry, IsValue}
use Rattle.dp_lister.proofs.Canonical.{called_text, entry_text}
use Rattle.dp_lister.specs.Listing.{label_text, priority_text}
use Rattle.dp_plan.proofs.EntryLemmas.{without_last-found}

-- ---- decimals

-- a digit
record IsDigit (b : ℕ) : Type 0 where
  low : 48 ≤ b
  high : b ≤ 57

-- digits that write a number
record Writes (text : List ℕ) (number : ℕ) : Type 0 where
  first : ℕ
  rest : List ℕ
  is : text ≡ first ∷ rest
  digits : AllByRecursion IsDigit (first ∷ rest)
  value : digits_number (first ∷ rest) ≡ number

digits_are : (text : List ℕ) → AllDigits 10 text → AllByRecursion IsDigit text
digits_are [] a = tt
digits_are (b ∷ text) a =
    let range = digit_from_value b a.0 in
    (record { low = omega arith; high = omega arith }, digits_are text a.1)

fold-digits : (number : ℕ) (text : List ℕ) → AllDigits 10 text → fold with_digit number text ≡ digits_value_after 10 number text
fold-digits number [] a = refl
fold-digits number (b ∷ text) a =
    let worth : digit_value b + 48 ≡ b = digit_value_digit b (digit_from_value b a.0) in
    let same : with_digit number b ≡ number * 10 + digit_value b = omega arith in
    ap (λ n. fold with_digit n text) same ∙ fold-digits (number * 10 + digit_value b) text a.1

decimal-writes : (number : ℕ) → number < 2 ^ 64 → Writes (decimal number) number
decimal-writes number small = by (decimal number) (decimal_is_IsNumeral number small).0.0 (decimal_is_IsNumeral number small).0.1 (decimal_is_IsNumeral number small).1
  where
    by : (text : List ℕ) → 0 < length text → AllDigits 10 text → digits_value 10 text ≡ number → Writes text number
    by [] some a e = absurd (omega arith)
    by (b ∷ text) some a e = record {
      first = b;
      rest = text;
      is = refl;
      digits = digits_are (b ∷ text) a;
      value = fold-digits 0 (b ∷ text) a ∙ e;
    }

digits-avoid : (byte : ℕ) → byte < 48 → (text : List ℕ) → AllByRecursion IsDigit text → Avoids byte text
digits-avoid byte below text digits = each-weaker IsDigit (λ b. (b == byte) ≡ false) (λ b d. let low = d.low in grind (arith, nat_tests)) text digits

digits-firm : (text : List ℕ) → AllByRecursion IsDigit text → AllByRecursion (λ b. is_blank b ≡ false) text
digits-firm text digits = each-weaker IsDigit (λ b. is_blank b ≡ false) (λ b d. let low = d.low in grind (arith, nat_tests)) text digits

all-digits : (text : List ℕ) → AllByRecursion IsDigit text → list_all is_digit text ≡ true
all-digits [] digits = refl
all-digits (b ∷ text) digits =
    let low = digits.0.low in
    let high = digits.0.high in
    let digit : is_digit b ≡ true = grind (arith, nat_tests) in
    ap (λ t. t && list_all is_digit text) digit ∙ all-digits text digits.1

-- ---- the priority

written_of-digits : (first : ℕ) (rest : List ℕ) (number : ℕ) → AllByRecursion IsDigit (first ∷ rest) → digits_number (first ∷ rest) ≡ number → IsPriority number → written_of (first ∷ rest) ≡ Ok (Number number)
written_of-digits first rest number digits value priority =
    let high = digits.0.high in
    let positive = priority.0 in
    let within = priority.1 in
    let no_h : eqb first 104 ≡ false = grind (arith, nat_tests) in
    let no_n : eqb first 110 ≡ false = grind (arith, nat_tests) in
    let no_s : eqb first 115 ≡ false = grind (arith, nat_tests) in
    let no_plus : list_any (λ b. b == 43) (first ∷ rest) ≡ false = any-none (λ b. b == 43) (first ∷ rest) (digits-avoid 43 (omega arith) (first ∷ rest) digits) in
    let no_zero : (number == 0) ≡ false = grind (arith, nat_tests) in
    let fits : nat_le number most_priority ≡ true = grind (arith, nat_tests) in
    let all : list_all is_digit (first ∷ rest) ≡ true = all-digits (first ∷ rest) digits in
    simp (no_h, no_n, no_s, no_plus, all, value, no_zero, fits) refl

-- a priority with its label, if it has one, is read as it was written
written_priority-again : (priority : ℕ) (label : Option (List ℕ)) → IsPriority priority → IsLabelled label → written_priority (priority_text priority label) ≡ Ok (Number priority, label)
unfolding written_priority
written_priority-again priority None fine labelled =
    let digits = decimal-writes priority (omega (arith, fine.1)) in
    let text : decimal priority ++ [] ≡ digits.first ∷ digits.rest = append-nil (decimal priority) ∙ digits.is in
    rw (
      text,
      cut_once-nowhere 40 (digits.first ∷ digits.rest) (digits-avoid 40 (omega arith) (digits.first ∷ digits.rest) digits.digits),
      written_of-digits digits.first digits.rest priority digits.digits digits.value fine,
    ) refl
written_priority-again priority (Some label) fine labelled =
    let digits = decimal-writes priority (omega (arith, fine.1)) in
    rw (
      digits.is,
      cut_once-here 40 (digits.first ∷ digits.rest) (label ++ 41 ∷ []) (digits-avoid 40 (omega arith) (digits.first ∷ digits.rest) digits.digits),
      trim-trimmed (digits.first ∷ digits.rest) (trimmed-firm (digits.first ∷ digits.rest) (digits-firm (digits.first ∷ digits.rest) digits.digits)),
      written_of-digits digits.first digits.rest priority digits.digits digits.value fine,
      within label labelled,
    ) refl
  where
    within : (label : List ℕ) → IsLabel label → label_within (without_last 41 (label ++ 41 ∷ [])) ≡ Ok label
    within label l =
        simp (without_last-found 41 label 41 refl, trim-trimmed label l.trimmed, l.labels) refl

priority_text-trimmed : (priority : ℕ) (label : Option (List ℕ)) → IsPriority priority → IsTrimmed (priority_text priority label)
priority_text-trimmed priority None fine =
    let digits = decimal-writes priority (omega (arith, fine.1)) in
    subst IsTrimmed (sym (append-nil (decimal priority) ∙ digits.is)) (trimmed-firm (digits.first ∷ digits.rest) (digits-firm (digits.first ∷ digits.rest) digits.digits))
priority_text-trimmed priority (Some label) fine =
    let digits = decimal-writes priority (omega (arith, fine.1)) in
    let firm = digits-firm (digits.first ∷ digits.rest) digits.digits in
    subst (λ (text : List ℕ). IsTrimmed (text ++ 40 ∷ (label ++ 41 ∷ []))) (sym digits.is)
    (subst IsTrimmed (append_assoc (digits.first ∷ digits.rest) (40 ∷ label) (41 ∷ [])) (trimmed-between digits.first (digits.rest ++ 40 ∷ label) 41 firm.0 refl))

no_comma : (priority : ℕ) (label : Option (List ℕ)) → IsPriority priority → IsLabelled label → Avoids 44 (priority_text priority label)
no_comma priority label fine labelled =
    let digits = decimal-writes priority (omega (arith, fine.1)) in
    each-append (λ b. (b == 44) ≡ false) (decimal priority) (label_text label) (subst (Avoids 44) (sym digits.is) (digits-avoid 44 (omega arith) (digits.first ∷ digits.rest) digits.digits)) (by label labelled)
  where
    by : (label : Option (List ℕ)) → IsLabelled label → Avoids 44 (label_text label)
    by None l = tt
    by (Some label) l = (refl, each-append (λ b. (b == 44) ≡ false) label (41 ∷ []) l.no_comma (refl, tt))

-- ---- the application

application_of-again : (name arguments : List ℕ) → IsApplication name → application_of (called_text name arguments) ≡ Ok (name, arguments)
unfolding application_of
application_of-again name arguments fine =
    rw (
      cut_once-here 40 name (arguments ++ 41 ∷ []) fine.no_opening,
      without_last-found 41 arguments 41 refl,
      any-none (λ b. b == 44) name fine.no_comma,
      trim-trimmed name fine.trimmed,
      fine.some.is,
    ) refl

called_text-trimmed : (name arguments : List ℕ) → IsApplication name → IsTrimmed (called_text name arguments)
called_text-trimmed name arguments fine =
    let firm = (subst IsTrimmed fine.some.is fine.trimmed).begins in
    subst (λ (n : List ℕ). IsTrimmed (called_text n arguments)) (sym fine.some.is)
    (subst IsTrimmed (append_assoc (fine.some.first ∷ fine.some.rest) (40 ∷ arguments) (41 ∷ [])) (trimmed-between fine.some.first (fine.some.rest ++ 40 ∷ arguments) 41 firm refl))

-- ---- the name

fine_byte : (b : ℕ) → is_bad b ≡ false → is_blank b ≡ false
fine_byte b e = grind (arith, nat_tests)

-- a spelling contains no blank
pub spelling-firm : (name : Meaning) → IsName name → AllByRecursion (λ b. is_blank b ≡ false) (spelling name)
spelling-firm name known =
    each-weaker (λ b. is_bad b ≡ false) (λ b. is_blank b ≡ false) fine_byte (spelling name) (none-any is_bad (spelling name) (spells_cleanly.fine name known))

name_of-again : (line : ℕ) (name : Meaning) → IsExtension name → name_of line (spelling name) ≡ Ok name
unfolding name_of
name_of-again line name fine =
    let slash : list_any (λ b. b == 47) (spelling name) ≡ false = any-none (λ b. b == 47) (spelling name) fine.no_slash in
    simp (fine.no_variable, slash, spelled_again name fine.known) refl

-- ---- the entry

entry_by-again : (history : PlanHistory) (line : ℕ) (context : List ℕ) (entry : Entry) → IsEntry entry → entry_by history line context entry.name (priority_text entry.priority entry.label) (called_text entry.application entry.arguments) ≡ Ok entry
entry_by-again history line context entry fine =
    simp (written_priority-again entry.priority entry.label fine.priority fine.label, application_of-again entry.application entry.arguments fine.application, fine.accepted) refl

-- the value of an entry's line is read as the entry
pub exten_entry-again : (history : PlanHistory) (line : ℕ) (context : List ℕ) (entry : Entry) → IsEntry entry → exten_entry history line context (entry_text entry) ≡ Ok entry
unfolding exten_entry
exten_entry-again history line context entry fine =
    let p : List ℕ = priority_text entry.priority entry.label in
    let a : List ℕ = called_text entry.application entry.arguments in
    rw (
      cut_once-here 44 (spelling entry.name) (p ++ 44 ∷ a) fine.name.no_comma,
      cut_once-here 44 p a (no_comma entry.priority entry.label fine.priority fine.label),
      trim-trimmed (spelling entry.name) (trimmed-firm (spelling entry.name) (spelling-firm entry.name fine.name.known)),
      trim-trimmed p (priority_text-trimmed entry.priority entry.label fine.priority),
      trim-trimmed a (called_text-trimmed entry.application entry.arguments fine.application),
      name_of-again line entry.name fine.name,
    ) (entry_by-again history line context entry fine)

-- ---- the value of the line

spelling-one_line : (name : Meaning) → IsName name → Avoids 10 (spelling name)
spelling-one_line name known =
    each-weaker (λ b. is_bad b ≡ false) (λ b. (b == 10) ≡ false) (λ b e. grind (arith, nat_tests)) (spelling name) (none-any is_bad (spelling name) (spells_cleanly.fine name known))

priority_text-one_line : (priority : ℕ) (label : Option (List ℕ)) → IsPriority priority → IsLabelled label → Avoids 10 (priority_text priority label)
priority_text-one_line priority label fine labelled =
    let digits = decimal-writes priority (omega (arith, fine.1)) in
    each-append (λ b. (b == 10) ≡ false) (decimal priority) (label_text label) (subst (Avoids 10) (sym digits.is) (digits-avoid 10 (omega arith) (digits.first ∷ digits.rest) digits.digits)) (by label labelled)
  where
    by : (label : Option (List ℕ)) → IsLabelled label → Avoids 10 (label_text label)
    by None l = tt
    by (Some label) l = (refl, each-append (λ b. (b == 10) ≡ false) label (41 ∷ []) l.one_line (refl, tt))

firm-before : (text rest : List ℕ) → AllByRecursion (λ b. is_blank b ≡ false) text → BeginsFirm (text ++ 44 ∷ rest)
firm-before [] rest firm = refl
firm-before (b ∷ text) rest firm = firm.0

-- the value of an entry's line is trimmed and a single line
pub entry_text-value : (entry : Entry) → IsEntry entry → IsValue (entry_text entry)
entry_text-value entry fine =
    let closed = trim_end-after (40 ∷ entry.arguments) 41 [] refl in
    let called = trim_end-after (44 ∷ entry.application) 40 (entry.arguments ++ 41 ∷ []) closed in
    let numbered = trim_end-after (44 ∷ priority_text entry.priority entry.label) 44 (called_text entry.application entry.arguments) called in
    record {
      trimmed = record {
        begins = firm-before (spelling entry.name) (priority_text entry.priority entry.label ++ 44 ∷ called_text entry.application entry.arguments) (spelling-firm entry.name fine.name.known);
        ends = trim_end-after (spelling entry.name) 44 (priority_text entry.priority entry.label ++ 44 ∷ called_text entry.application entry.arguments) numbered;
      };
      one_line = each-append (λ b. (b == 10) ≡ false) (spelling entry.name) (44 ∷ (priority_text entry.priority entry.label ++ 44 ∷ called_text entry.application entry.arguments)) (spelling-one_line entry.name fine.name.known) (
        refl,
        each-append (λ b. (b == 10) ≡ false) (priority_text entry.priority entry.label) (44 ∷ called_text entry.application entry.arguments) (priority_text-one_line entry.priority entry.label fine.priority fine.label) (
          refl,
          each-append (λ b. (b == 10) ≡ false) entry.application (40 ∷ (entry.arguments ++ 41 ∷ [])) fine.application.one_line
              (refl, each-append (λ b. (b == 10) ≡ false) entry.arguments (41 ∷ []) fine.one_line (refl, tt)),
        ),
      );
    }
