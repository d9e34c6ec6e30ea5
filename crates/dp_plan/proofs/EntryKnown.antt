-- Facts about each entry of a line that is read.
use Rattle.std.proofs.Common.{◌≡◌, ℕ, ◌+◌, ◌<◌, ◌≤◌, Bool, true, false, cond, ◌==◌, nat_le, List, [], ◌∷◌, Option, Some, None, Result, Ok, Err, Contains, codes, refl, ◌∙◌, sym, subst, arith, true≢false}
use Rattle.std.specs.List.{AllByRecursion, list_any}
use Rattle.std.specs.Option.{option_map, IfSome}
use Rattle.std.specs.Result.{IfOk}
use Rattle.std.proofs.lemmas.Bool.Decides.{nat_tests}
use Rattle.std.proofs.lemmas.List.Elements.{All-contains, All-contains_itself, All-weaker, All-from_recursion, recursion_from_All}
use Rattle.dp_conf.specs.Answers.{◌>>=◌}
use Rattle.dp_conf.specs.Blanks.{trim}
use Rattle.dp_conf.specs.Cut.{cut_once}
use Rattle.dp_conf.specs.Numbers.{number_of, most_priority}
use Rattle.dp_conf.specs.Shallow.{is_too_deep}
use Rattle.dp_conf.specs.Words.{same_text}
use Rattle.dp_conf.proofs.LinesKnown.{IsLineByte, AreLineBytes}
use Rattle.dp_conf.proofs.TextLemmas.{each-weaker, each-trim, Avoids, none-any, IsCut, cut_once-is, cut_once-none, each-cut_front, each-cut_rest, IsTrimmed, trimmed-trim}
use Rattle.dp_pattern.specs.Name.{Meaning, meaning_of}
use Rattle.dp_pattern.specs.Spelling.{spelling, is_own}
use Rattle.dp_pattern.specs.declared.fault.NameFault.{NameFault}
use Rattle.dp_pattern.proofs.NameLemmas.{each_of}
use Rattle.dp_pattern.proofs.SpelledBytes.{spells_cleanly}
use Rattle.dp_plan.specs.EntryLine.{has_variable, without_last, name_without_variable, name_of, name_again, is_priority_word, written_number, written_of, before_label, is_no_label, label_within, label_of, number_after, written_priority, called_with, application_parts, application_by, application_of, shallow_at, entry_by, entry_of, exten_rest, exten_cut, exten_entry, same_cut, same_entry}
use Rattle.dp_plan.specs.Faults.{at_line, name_at_line, plan_fault}
use Rattle.dp_plan.specs.History.{PlanHistory}
use Rattle.dp_plan.specs.Priority.{IsPriority}
use Rattle.dp_plan.specs.declared.fault.Word.TheVariants.{Hint, CallerId, Variable, OldForm, PriorityWord}
use Rattle.dp_plan.specs.declared.fault.PlanKind.{PlanKind}
use Rattle.dp_plan.specs.declared.fault.PlanKind.TheVariants.{BadPriority, BadLabel, LeftOut, TooDeep, PriorityLimit}
use Rattle.dp_plan.specs.declared.fault.LoadFault.{LoadFault}
use Rattle.dp_plan.specs.declared.numbering.Written.{Written}
use Rattle.dp_plan.specs.declared.numbering.Written.TheVariants.{Number, TooGreat, Next}
use Rattle.dp_plan.proofs.PartsKnown.{IsExtension, IsLabel, IsLabelled, IsApplication, IsEntry}

-- ---- answers

-- what holds after each step holds after all
pub then-known : {X Y E : Type 0} (P : X → Type 0) (Q : Y → Type 0) (first : Result X E) (next : X → Result Y E)
    → IfOk first P → ((x : X) → P x → IfOk (next x) Q) → IfOk (first >>= next) Q
then-known P Q (Ok x) next fine each = each x fine
then-known P Q (Err fault) next fine each = tt

-- the same after a step for a line
then_at-known : {X Y : Type 0} (P : X → Type 0) (Q : Y → Type 0) (line : ℕ) (first : Result X PlanKind) (next : X → Result Y LoadFault)
    → IfOk first P → ((x : X) → P x → IfOk (next x) Q) → IfOk (at_line line first >>= next) Q
then_at-known P Q line (Ok x) next fine each = each x fine
then_at-known P Q line (Err kind) next fine each = tt

-- ---- the bytes of a line

pub one_line : (text : List ℕ) → AreLineBytes text → Avoids 10 text
one_line text bytes = each-weaker IsLineByte (λ b. (b == 10) ≡ false) (λ b line. line.1) text bytes

small : (text : List ℕ) → AreLineBytes text → AllByRecursion (λ b. b < 256) text
small text bytes = each-weaker IsLineByte (λ b. b < 256) (λ b line. line.0) text bytes

-- ---- the name

differs : (byte b : ℕ) → (b == byte ≡ true → ⊥) → (b == byte) ≡ false
differs byte b apart = by (b == byte) apart
  where
    by : (t : Bool) → (t ≡ true → ⊥) → t ≡ false
    by true apart = absurd (apart refl)
    by false apart = refl

-- a byte that spellings contain only if the text does is not in the spelling if it is not in the text
spelling-avoids : (byte : ℕ) → is_own byte ≡ false → (text : List ℕ) (name : Meaning) → meaning_of text ≡ Ok name → Avoids byte text → Avoids byte (spelling name)
spelling-avoids byte own text name read avoids =
    recursion_from_All (λ b. (b == byte) ≡ false) (spelling name)
    (All-weaker (Contains (spelling name)) (λ b. (b == byte) ≡ false) (λ b there. differs byte b (λ same. apart b there same)) (spelling name) (All-contains_itself (spelling name)))
  where
    apart : (b : ℕ) → Contains (spelling name) b → (b == byte) ≡ true → ⊥
    apart b there same =
        let is : b ≡ byte = grind (arith, nat_tests) in
        let in_text : Contains text b = spells_cleanly.kept text name b read there (subst (λ c. is_own c ≡ false) (sym is) own) in
        true≢false (sym same ∙ All-contains (λ c. (c == byte) ≡ false) text b (All-from_recursion (λ c. (c == byte) ≡ false) text avoids) in_text)

-- the name of an `exten` line
name_of-known : (line : ℕ) (text : List ℕ) → AreLineBytes text → Avoids 44 text → IfOk (name_of line text) IsExtension
unfolding name_of
name_of-known line text bytes avoids = by (has_variable text) (list_any (λ b. b == 47) text) refl
  where
    named_by : (name : Meaning) → meaning_of text ≡ Ok name → list_any (λ b. b == 47) text ≡ false → (t : Bool) → has_variable (spelling name) ≡ t
        → IfOk (cond {A = Result Meaning LoadFault} t (Err (plan_fault line (LeftOut Variable))) (Ok name)) IsExtension
    named_by name read slash true variable = tt
    named_by name read slash false variable = record {
      known = record { text = text; bytes = λ k within. each_of (λ b. b < 256) text (small text bytes) k within; read = read };
      no_comma = spelling-avoids 44 refl text name read avoids;
      no_slash = spelling-avoids 47 refl text name read (none-any (λ b. b == 47) text slash);
      no_variable = variable;
    }

    read_by : list_any (λ b. b == 47) text ≡ false → (read : Result Meaning NameFault) → meaning_of text ≡ read
        → IfOk (name_at_line line read >>= λ n. name_without_variable line n) IsExtension
    read_by slash (Err fault) read = tt
    read_by slash (Ok name) read = named_by name read slash (has_variable (spelling name)) refl

    by : (v s : Bool) → list_any (λ b. b == 47) text ≡ s
        → IfOk (cond {A = Result Meaning LoadFault} v (Err (plan_fault line (LeftOut Variable))) (cond s (Err (plan_fault line (LeftOut CallerId))) (name_at_line line (meaning_of text) >>= λ n. name_without_variable line n))) IsExtension
    by true s slash = tt
    by false true slash = tt
    by false false slash = read_by slash (meaning_of text) refl

-- ---- the priority

abbrev IsWritten : Written → Type 0
IsWritten (Number number) = IsPriority number
IsWritten TooGreat = Unit {0}
IsWritten Next = Unit {0}

written_number-known : (number : Option ℕ) → IfOk (written_number number) IsWritten
written_number-known None = tt
written_number-known (Some number) = by (number == 0) refl (nat_le number most_priority) refl
  where
    by : (z : Bool) → (number == 0) ≡ z → (t : Bool) → nat_le number most_priority ≡ t
        → IfOk (cond {A = Result Written PlanKind} z (Err BadPriority) (cond t (Ok (Number number)) (Ok TooGreat))) IsWritten
    by true zero t within = tt
    by false zero false within = tt
    by false zero true within =
        let low : 1 ≤ number = grind (arith, nat_tests) in
        let high : number ≤ most_priority = grind (arith, nat_tests) in
        (low, high)

written_of-known : (text : List ℕ) → IfOk (written_of text) IsWritten
written_of-known text = by (same_text text (codes "hint")) (is_priority_word text) (same_text text (codes "n"))
  where
    by : (h w n : Bool)
        → IfOk (cond {A = Result Written PlanKind} h (Err (LeftOut Hint)) (cond w (Err (LeftOut PriorityWord)) (cond n (Ok Next) (written_number (number_of text))))) IsWritten
    by true w n = tt
    by false true n = tt
    by false false true = tt
    by false false false = written_number-known (number_of text)

number_after-known : (last : Option ℕ) (written : Written) → IsWritten written → IfOk (number_after last written) IsPriority
number_after-known last (Number number) fine = fine
number_after-known last TooGreat fine = tt
number_after-known None Next fine = tt
number_after-known (Some last) Next fine = by (nat_le (last + 1) most_priority) refl
  where
    by : (t : Bool) → nat_le (last + 1) most_priority ≡ t → IfOk (cond {A = Result ℕ PlanKind} t (Ok (last + 1)) (Err PriorityLimit)) IsPriority
    by false within = tt
    by true within =
        let low : 1 ≤ last + 1 = omega arith in
        let high : last + 1 ≤ most_priority = grind (arith, nat_tests) in
        (low, high)

each-without_last : (P : ℕ → Type 0) (last : ℕ) (text : List ℕ) → AllByRecursion P text → IfSome (without_last last text) (AllByRecursion P)
each-without_last P last [] a = tt
each-without_last P last (b ∷ []) a = by (b == last)
  where
    by : (t : Bool) → IfSome (cond {A = Option (List ℕ)} t (Some []) None) (AllByRecursion P)
    by true = tt
    by false = tt
each-without_last P last (b ∷ c ∷ text) a = by (without_last last (c ∷ text)) (each-without_last P last (c ∷ text) a.1)
  where
    by : (o : Option (List ℕ)) → IfSome o (AllByRecursion P) → IfSome (option_map (λ (f : List ℕ). b ∷ f) o) (AllByRecursion P)
    by None front = tt
    by (Some f) front = (a.0, front)

label_within-known : (inside : Option (List ℕ)) → IfSome inside AreLineBytes → IfSome inside (Avoids 44) → IfOk (label_within inside) IsLabel
label_within-known None bytes avoids = tt
label_within-known (Some text) bytes avoids = by (is_no_label (trim text)) refl
  where
    by : (t : Bool) → is_no_label (trim text) ≡ t → IfOk (cond {A = Result (List ℕ) PlanKind} t (Err BadLabel) (Ok (trim text))) IsLabel
    by true labels = tt
    by false labels = record {
      trimmed = trimmed-trim text;
      one_line = one_line (trim text) (each-trim IsLineByte text bytes);
      no_comma = each-trim (λ b. (b == 44) ≡ false) text avoids;
      labels = labels;
    }

label_of-known : (text : List ℕ) (cut : Option (List ℕ × List ℕ)) → AreLineBytes text → Avoids 44 text → cut_once 40 text ≡ cut → IfOk (label_of cut) IsLabelled
label_of-known text None bytes avoids c = tt
label_of-known text (Some cut) bytes avoids c =
    let is = cut_once-is 40 text cut.0 cut.1 c in
    then-known IsLabel IsLabelled (label_within (without_last 41 cut.1)) (λ label. Ok (Some label))
    (label_within-known (without_last 41 cut.1)
    (each-without_last IsLineByte 41 cut.1 (each-cut_rest IsLineByte 40 text cut.0 cut.1 is bytes))
    (each-without_last (λ b. (b == 44) ≡ false) 41 cut.1 (each-cut_rest (λ b. (b == 44) ≡ false) 40 text cut.0 cut.1 is avoids)))
    (λ label fine. fine)

-- facts about a written priority
record IsPriorityText (written : Written × Option (List ℕ)) : Type 0 where
  number : IsWritten written.0
  label : IsLabelled written.1

written_priority-known : (text : List ℕ) → AreLineBytes text → Avoids 44 text → IfOk (written_priority text) IsPriorityText
unfolding written_priority
written_priority-known text bytes avoids =
    let cut : Option (List ℕ × List ℕ) = cut_once 40 text in
    then-known IsWritten IsPriorityText (written_of (before_label text cut)) _ (written_of-known (before_label text cut)) (λ written number.
    then-known IsLabelled IsPriorityText (label_of cut) (λ label. Ok (written, label)) (label_of-known text cut bytes avoids refl) (λ label fine.
    record { number = number; label = fine }))

-- ---- the application

-- facts about an application as written
pub record IsCalled (called : List ℕ × List ℕ) : Type 0 where
  pub name : IsApplication called.0
  pub one_line : Avoids 10 called.1

called_with-known : (name : List ℕ) (arguments : Option (List ℕ)) → IsTrimmed name → Avoids 10 name → Avoids 40 name → Avoids 44 name
    → IfSome arguments (Avoids 10) → IfOk (called_with name arguments) IsCalled
called_with-known [] arguments trimmed line opening comma inside = tt
called_with-known (b ∷ name) None trimmed line opening comma inside = tt
called_with-known (b ∷ name) (Some arguments) trimmed line opening comma inside = record {
  name = record { some = record { first = b; rest = name; is = refl }; trimmed = trimmed; one_line = line; no_opening = opening; no_comma = comma };
  one_line = inside;
}

application_by-known : (name : List ℕ) (arguments : Option (List ℕ)) → Avoids 10 name → Avoids 40 name → IfSome arguments (Avoids 10)
    → IfOk (application_by (name, arguments)) IsCalled
application_by-known name arguments line opening inside = by (list_any (λ b. b == 44) name) refl
  where
    by : (t : Bool) → list_any (λ b. b == 44) name ≡ t
        → IfOk (cond {A = Result (List ℕ × List ℕ) PlanKind} t (Err (LeftOut OldForm)) (called_with (trim name) arguments)) IsCalled
    by true comma = tt
    by false comma =
        called_with-known (trim name) arguments (trimmed-trim name) (each-trim (λ b. (b == 10) ≡ false) name line)
        (each-trim (λ b. (b == 40) ≡ false) name opening) (each-trim (λ b. (b == 44) ≡ false) name (none-any (λ b. b == 44) name comma)) inside

application_of-known : (text : List ℕ) → Avoids 10 text → IfOk (application_of text) IsCalled
unfolding application_of
application_of-known text line = by (cut_once 40 text) refl
  where
    by : (cut : Option (List ℕ × List ℕ)) → cut_once 40 text ≡ cut → IfOk (application_by (application_parts text cut)) IsCalled
    by None c = application_by-known text (Some []) line (cut_once-none 40 text c) tt
    by (Some cut) c =
        let is = cut_once-is 40 text cut.0 cut.1 c in
        application_by-known cut.0 (without_last 41 cut.1) (each-cut_front (λ b. (b == 10) ≡ false) 40 text cut.0 cut.1 is line) is.avoids
        (each-without_last (λ b. (b == 10) ≡ false) 41 cut.1 (each-cut_rest (λ b. (b == 10) ≡ false) 40 text cut.0 cut.1 is line))

-- ---- the entry

-- what holds of a text holds of it if it is shallow
pub shallow-known : (P : List ℕ → Type 0) (line : ℕ) (text : List ℕ) → P text → IfOk (shallow_at line text) (λ shallow. P shallow × (is_too_deep shallow ≡ false))
shallow-known P line text fine = by (is_too_deep text) refl
  where
    by : (t : Bool) → is_too_deep text ≡ t
        → IfOk (cond {A = Result (List ℕ) LoadFault} t (Err (plan_fault line TooDeep)) (Ok text)) (λ shallow. P shallow × (is_too_deep shallow ≡ false))
    by true deep = tt
    by false deep = (fine, deep)

entry_by-known : (history : PlanHistory) (line : ℕ) (context : List ℕ) (name : Meaning) (priority application : List ℕ)
    → IsExtension name → AreLineBytes priority → Avoids 44 priority → Avoids 10 application
    → IfOk (entry_by history line context name priority application) IsEntry
entry_by-known history line context name priority application extension bytes avoids one =
    then_at-known IsPriorityText IsEntry line (written_priority priority) _ (written_priority-known priority bytes avoids) (λ written text.
    then_at-known IsPriority IsEntry line (number_after (history.priority context name) written.0) _
    (number_after-known (history.priority context name) written.0 text.number) (λ number within.
    then_at-known IsCalled IsEntry line (application_of application) _ (application_of-known application one) (λ called calls.
    then-known (λ (a : List ℕ). Avoids 10 a × (is_too_deep a ≡ false)) IsEntry (shallow_at line called.1) _
    (shallow-known (Avoids 10) line called.1 calls.one_line) (λ arguments shallow. record {
      name = extension;
      priority = within;
      label = text.label;
      application = calls.name;
      one_line = shallow.0;
      accepted = shallow.1;
    }))))

-- the entry with a name, given the texts before and after the comma in the rest of a line
entry_of-known : (history : PlanHistory) (line : ℕ) (context : List ℕ) (name : Result Meaning LoadFault) (text front rest : List ℕ)
    → IfOk name IsExtension → AreLineBytes text → IsCut 44 text front rest → IfOk (entry_of history line context name (trim front) (trim rest)) IsEntry
entry_of-known history line context name text front rest names bytes is =
    then-known IsExtension IsEntry name _ names (λ n extension. entry_by-known history line context n (trim front) (trim rest) extension
    (each-trim IsLineByte front (each-cut_front IsLineByte 44 text front rest is bytes)) (each-trim (λ b. (b == 44) ≡ false) front is.avoids)
    (one_line (trim rest) (each-trim IsLineByte rest (each-cut_rest IsLineByte 44 text front rest is bytes))))

exten_rest-known : (history : PlanHistory) (line : ℕ) (context name rest : List ℕ) (cut : Option (List ℕ × List ℕ)) → AreLineBytes name → Avoids 44 name
    → AreLineBytes rest → cut_once 44 rest ≡ cut → IfOk (exten_rest history line context name cut) IsEntry
exten_rest-known history line context name rest None name_bytes name_avoids bytes c = tt
exten_rest-known history line context name rest (Some cut) name_bytes name_avoids bytes c =
    entry_of-known history line context (name_of line name) rest cut.0 cut.1
    (name_of-known line name name_bytes name_avoids) bytes (cut_once-is 44 rest cut.0 cut.1 c)

exten_cut-known : (history : PlanHistory) (line : ℕ) (context value : List ℕ) (cut : Option (List ℕ × List ℕ)) → AreLineBytes value
    → cut_once 44 value ≡ cut → IfOk (exten_cut history line context cut) IsEntry
exten_cut-known history line context value None bytes c = tt
exten_cut-known history line context value (Some cut) bytes c =
    let is = cut_once-is 44 value cut.0 cut.1 c in
    exten_rest-known history line context (trim cut.0) cut.1 (cut_once 44 cut.1)
    (each-trim IsLineByte cut.0 (each-cut_front IsLineByte 44 value cut.0 cut.1 is bytes)) (each-trim (λ b. (b == 44) ≡ false) cut.0 is.avoids)
    (each-cut_rest IsLineByte 44 value cut.0 cut.1 is bytes) refl

-- the entry of an `exten` line
pub exten_entry-known : (history : PlanHistory) (line : ℕ) (context value : List ℕ) → AreLineBytes value → IfOk (exten_entry history line context value) IsEntry
unfolding exten_entry
exten_entry-known history line context value bytes = exten_cut-known history line context value (cut_once 44 value) bytes refl

-- facts about the last name since a header
abbrev pub IsLastName : Option Meaning → Type 0
IsLastName None = Unit {0}
IsLastName (Some name) = IsExtension name

name_again-known : (line : ℕ) (last : Option Meaning) → IsLastName last → IfOk (name_again line last) IsExtension
name_again-known line None fine = tt
name_again-known line (Some name) fine = fine

same_cut-known : (history : PlanHistory) (line : ℕ) (context value : List ℕ) (cut : Option (List ℕ × List ℕ)) → IsLastName history.name → AreLineBytes value
    → cut_once 44 value ≡ cut → IfOk (same_cut history line context cut) IsEntry
same_cut-known history line context value None last bytes c =
    then-known IsExtension IsEntry (name_again line history.name) _ (name_again-known line history.name last) (λ name fine. tt)
same_cut-known history line context value (Some cut) last bytes c =
    entry_of-known history line context (name_again line history.name) value cut.0 cut.1
    (name_again-known line history.name last) bytes (cut_once-is 44 value cut.0 cut.1 c)

-- the entry of a `same` line
pub same_entry-known : (history : PlanHistory) (line : ℕ) (context value : List ℕ) → IsLastName history.name → AreLineBytes value
    → IfOk (same_entry history line context value) IsEntry
unfolding same_entry
same_entry-known history line context value last bytes = same_cut-known history line context value (cut_once 44 value) last bytes refl
