-- Lines that are unchanged.
use Rattle.std.proofs.Common.{◌≡◌, ℕ, Bool, true, false, not, ◌&&◌, ◌+◌, List, [], ◌∷◌, map, Option, Some, None, refl, ap, ◌∙◌}
use Rattle.std.specs.List.{flat_map}
use Rattle.std.specs.Option.{unwrap_or}
use Rattle.dp_conf.specs.Lines.{content_of}
use Rattle.dp_files.specs.ContextHistory.{Said, LineHistoryOf, extension_of, has_caller, hint_in, history_of}
use Rattle.dp_files.specs.ContextLines.{ContextReading, ContextEntry, all_made, context_lines, context_remarks, entry_reading, entry_text, is_alone, is_double, is_number_alone, kept_label, label_of, line_by, line_reading, made_line, outcome_of_number, numbered_reading, plain_reading, reading_of, remark_on, written_outcome}
use Rattle.dp_files.specs.ContextWords.{ContextLineOf, Exten, Same, LeftOut, Other, context_line, is_old_form}
use Rattle.dp_files.specs.PlainContexts.{are_plain, as_it_stands, is_plain, is_plain_entry, is_plain_line}
use Rattle.dp_files.specs.Priorities.{Number, Next, Label, Same as same_base, WrittenBaseOf, Hint, Counted, WrittenPriorityOf, priority_of, within_limit}
use Rattle.dp_files.specs.declared.extension.WrittenExtension.{WrittenExtension}
use Rattle.dp_files.specs.declared.line_reading.LineResult.{LineResult}
use Rattle.dp_files.specs.declared.outcome.PriorityOutcome.{PriorityOutcome}
use Rattle.dp_files.specs.declared.outcome.PriorityOutcome.TheVariants.{Refused, Hinted, AfterTheHint, Numbered}
use Rattle.dp_files.specs.declared.source_line.MadeLine.{MadeLine}
use Rattle.dp_files.proofs.HistoryLemmas.{history_of-more}

-- ---- tests

and_first : (a b : Bool) → (a && b) ≡ true → a ≡ true
and_first true b e = refl
and_first false b e = absurd cc

and_second : (a b : Bool) → (a && b) ≡ true → b ≡ true
and_second true b e = e
and_second false b e = absurd cc

not_true : (a : Bool) → not a ≡ true → a ≡ false
not_true true e = absurd cc
not_true false e = refl

-- a plain number, with a label that is kept, and without a hint before it
number_is_plain : (alone double same hint : Bool) → alone ≡ true → double ≡ false → hint ≡ false → (alone && not double && not (same && hint)) ≡ true
number_is_plain true false true false a d h = refl
number_is_plain true false false false a d h = refl
number_is_plain true false true true a d h = absurd cc
number_is_plain true false false true a d h = absurd cc
number_is_plain true true same hint a d h = absurd cc
number_is_plain false double same hint a d h = absurd cc

-- ---- a line

-- a line unchanged
abbrev standing : List ℕ → LineResult
standing line = record { text = Some line; remark = None }

-- the line is unchanged, and no hint comes after it
record Stays (history : LineHistoryOf) (line : List ℕ) (reading : ContextReading) : Type 0 where
  made : reading.made ≡ standing line
  hint : unwrap_or (hint_in reading.said) history.is_after_hint ≡ false

-- a number, or a priority that is refused
abbrev is_counted : PriorityOutcome → Bool
is_counted Refused = true
is_counted Hinted = false
is_counted AfterTheHint = false
is_counted (Numbered number) = true

-- a line with a number
module _ (history : LineHistoryOf) (line : List ℕ) (entry : ContextEntry) (kept : Option (List ℕ)) (hint : history.is_after_hint ≡ false)
    (old : is_old_form entry.application ≡ false) (alone : is_number_alone entry.priority ≡ true) (single : is_double (label_of entry.priority) kept ≡ false) where
  numbered_stays : (number : ℕ) → Stays history line (numbered_reading history.is_after_hint line entry number kept)
  unfolding numbered_reading
  numbered_stays number =
      let text : entry_text history.is_after_hint line entry number kept ≡ line =
      rw (number_is_plain (is_number_alone entry.priority) (is_double (label_of entry.priority) kept) entry.is_same history.is_after_hint alone single hint) refl in
      rw old (record { made = rw text (rw single refl); hint = refl })

  -- or with a number, if there is one
  numbered_or_not : (outcome : PriorityOutcome) → is_counted outcome ≡ true → Stays history line (plain_reading history.is_after_hint line entry kept outcome)
  numbered_or_not Refused counted = record { made = refl; hint = hint }
  numbered_or_not Hinted counted = absurd cc
  numbered_or_not AfterTheHint counted = absurd cc
  numbered_or_not (Numbered number) counted = numbered_stays number

counted_number : (number : Option ℕ) → is_counted (outcome_of_number number) ≡ true
counted_number None = refl
counted_number (Some number) = refl

-- the outcome of a plain number
fixed_outcome : (history : LineHistoryOf) (name : List ℕ) (written : WrittenBaseOf) → is_alone written ≡ true → is_counted (written_outcome history name written) ≡ true
fixed_outcome history name Hint alone = absurd cc
fixed_outcome history name (Counted (Number number) None) alone = counted_number (within_limit (number + 0))
fixed_outcome history name (Counted Next None) alone = absurd cc
fixed_outcome history name (Counted same_base None) alone = absurd cc
fixed_outcome history name (Counted (Label label) None) alone = absurd cc
fixed_outcome history name (Counted base (Some more)) alone = absurd cc

-- an entry of an extension
entry_stays : (history : LineHistoryOf) (line : List ℕ) (same : Bool) (extension : WrittenExtension) (priority : Option WrittenPriorityOf) (application : List ℕ)
    → history.is_after_hint ≡ false → is_plain_entry history (Some extension) priority application ≡ true
    → Stays history line (entry_reading history line (record { is_same = same; extension = extension; priority = priority; application = application }))
unfolding entry_reading
entry_stays history line same extension None application hint plain =
    let bare = not_true (has_caller extension.name) (and_first (not (has_caller extension.name)) _ plain) in
    rw bare (record { made = refl; hint = hint })
entry_stays history line same extension (Some priority) application hint plain =
    let bare = not_true (has_caller extension.name) (and_first (not (has_caller extension.name)) _ plain) in
    let rest = and_second (not (has_caller extension.name)) _ plain in
    let fixed = and_first (is_alone priority.written) _ rest in
    let others = and_second (is_alone priority.written) _ rest in
    let old = not_true (is_old_form application) (and_first (not (is_old_form application)) _ others) in
    let kept = kept_label history extension.spelling priority.label in
    let single = not_true (is_double priority.label kept) (and_second (not (is_old_form application)) _ others) in
    let entry : ContextEntry = record { is_same = same; extension = extension; priority = Some priority; application = application } in
    rw bare (numbered_or_not history line entry kept hint old fixed single (written_outcome history extension.spelling priority.written)
    (fixed_outcome history extension.spelling priority.written fixed))

-- an entry whose extension may not be valid
known_stays : (history : LineHistoryOf) (line : List ℕ) (same : Bool) (extension : Option WrittenExtension) (priority application : List ℕ)
    → history.is_after_hint ≡ false → is_plain_entry history extension (priority_of priority) application ≡ true
    → Stays history line (reading_of history line same extension priority application)
known_stays history line same None priority application hint plain = record { made = refl; hint = hint }
known_stays history line same (Some extension) priority application hint plain =
    entry_stays history line same extension (priority_of priority) application hint plain

-- a line, given what it says
words_stay : (history : LineHistoryOf) (line : List ℕ) (words : ContextLineOf) → history.is_after_hint ≡ false → is_plain_line history words ≡ true → Stays history line (line_by history line words)
words_stay history line (Exten name priority application) hint plain = known_stays history line false (extension_of name) priority application hint plain
words_stay history line (Same priority application) hint plain = known_stays history line true history.extension priority application hint plain
words_stay history line (LeftOut note) hint plain = absurd cc
words_stay history line Other hint plain = record { made = refl; hint = hint }

-- a line
line_stays : (history : LineHistoryOf) (line : List ℕ) → history.is_after_hint ≡ false → is_plain history line ≡ true → Stays history line (line_reading history line)
unfolding line_reading is_plain
line_stays history line hint plain = words_stay history line (context_line (content_of line)) hint plain

-- ---- all lines

-- a line unchanged, at its place
abbrev standing_at : ℕ × List ℕ → ℕ × LineResult
standing_at line = (line.0, standing line.1)

made_stay : (before : List Said) (lines : List (ℕ × List ℕ)) → (history_of before).is_after_hint ≡ false → are_plain before lines ≡ true → all_made before lines ≡ map standing_at lines
made_stay before [] hint plain = refl
made_stay before (line ∷ lines) hint plain =
    let history = history_of before in
    let said = (line_reading history line.1).said in
    let this = line_stays history line.1 hint (and_first (is_plain history line.1) _ plain) in
    let after : (history_of (said ∷ before)).is_after_hint ≡ false = ap (λ (h : LineHistoryOf). h.is_after_hint) (history_of-more said before) ∙ this.hint in
    let rest = made_stay (said ∷ before) lines after (and_second (is_plain history line.1) _ plain) in
    (λ i. (line.0, this.made i) ∷ rest i)

lines_stand : (lines : List (ℕ × List ℕ)) → flat_map made_line (map standing_at lines) ≡ map as_it_stands lines
lines_stand [] = refl
lines_stand (line ∷ lines) = ap (λ (rest : List MadeLine). as_it_stands line ∷ rest) (lines_stand lines)

none_remarked : (lines : List (ℕ × List ℕ)) → flat_map remark_on (map standing_at lines) ≡ []
none_remarked [] = refl
none_remarked (line ∷ lines) = none_remarked lines

-- plain lines are unchanged
pub plain_lines : (lines : List (ℕ × List ℕ)) → are_plain [] lines ≡ true → context_lines lines ≡ map as_it_stands lines
unfolding context_lines
plain_lines lines plain = ap (flat_map made_line) (made_stay [] lines refl plain) ∙ lines_stand lines

-- without remarks
pub plain_remarks : (lines : List (ℕ × List ℕ)) → are_plain [] lines ≡ true → context_remarks lines ≡ []
unfolding context_remarks
plain_remarks lines plain = ap (flat_map remark_on) (made_stay [] lines refl plain) ∙ none_remarked lines
