-- Texts, lines, names, priorities and applications with results that are computed from the definitions themselves.
use Rattle.std.proofs.Common.{◌≡◌, ℕ, zero, suc, List, [], ◌∷◌, ◌++◌, Some, None, Ok, Err, refl}
use Rattle.std.specs.Prelude.{codes}
use Rattle.dp_conf.specs.Groups.{depth_of}
use Rattle.dp_conf.specs.GroupsRead.{levels, reading_of, nesting_of}
use Rattle.dp_conf.specs.Lines.{lines_of}
use Rattle.dp_conf.specs.declared.fault.LineKind.TheVariants.{NoEquals}
use Rattle.dp_pattern.specs.Name.{Plain, meaning_of}
use Rattle.dp_pattern.specs.Spelling.{spelling}
use Rattle.dp_pattern.specs.declared.fault.NameFault.TheVariants.{BadByte}
use Rattle.dp_plan.specs.Items.{context_item}
use Rattle.dp_plan.specs.EntryLine.{name_of, written_priority, number_after, application_of, exten_entry, same_entry}
use Rattle.dp_plan.specs.Loaded.{plan_and_notes}
use Rattle.dp_plan.specs.Plan.{plan_of, notes_of}
use Rattle.dp_plan.specs.Faults.{plan_fault}
use Rattle.dp_plan.specs.declared.fault.LoadFault.TheVariants.{Line}
use Rattle.dp_plan.specs.declared.fault.LoadKind.TheVariants.{Conf, Pattern}
use Rattle.dp_plan.specs.declared.fault.PlanKind.TheVariants.{BadPriority, NoPrevious, BadLabel, BadApplication, LeftOut, TooDeep, NoExten, PriorityLimit, ShortLine}
use Rattle.dp_plan.specs.declared.fault.Word.TheVariants.{CallerId, Variable, OldForm, PriorityWord}
use Rattle.dp_plan.specs.declared.note.NoteKind.TheVariants.{DoublePriority, DoubleLabel, UnknownContext, UnknownKey}
use Rattle.dp_plan.specs.declared.numbering.Written.TheVariants.{Number, TooGreat, Next}

-- ---- names

name-variable_first : name_of 3 (codes "${X}/1") ≡ Err (plan_fault 3 (LeftOut Variable))
unfolding name_of
name-variable_first = refl

name-caller_before_the_set : name_of 3 (codes "_[/") ≡ Err (plan_fault 3 (LeftOut CallerId))
unfolding name_of
name-caller_before_the_set = refl

name-variable_of_the_spelling : name_of 3 (codes "$-{x") ≡ Err (plan_fault 3 (LeftOut Variable))
unfolding name_of meaning_of spelling
name-variable_of_the_spelling = refl

name-blank : name_of 3 (codes "a b") ≡ Err (Line 3 (Pattern BadByte))
unfolding name_of meaning_of
name-blank = refl

-- ---- priorities

priority-greatest : written_priority (codes "2147483647") ≡ Ok (Number 2147483647, None)
unfolding written_priority
priority-greatest = refl

priority-above : written_priority (codes "2147483648") ≡ Ok (TooGreat, None)
unfolding written_priority
priority-above = refl

priority-zero : written_priority (codes "00") ≡ Err BadPriority
unfolding written_priority
priority-zero = refl

priority-sum : written_priority (codes "n+1(a)") ≡ Err (LeftOut PriorityWord)
unfolding written_priority
priority-sum = refl

priority-label : written_priority (codes "n ( a b )") ≡ Ok (Next, Some (codes "a b"))
unfolding written_priority
priority-label = refl

-- the sign is refused only before the label
priority-sum_in_a_label : written_priority (codes "1(a+b)") ≡ Ok (Number 1, Some (codes "a+b"))
unfolding written_priority
priority-sum_in_a_label = refl

priority-digits_in_a_label : written_priority (codes "2147483648(12)") ≡ Err BadLabel
unfolding written_priority
priority-digits_in_a_label = refl

next-first : number_after None Next ≡ Err NoPrevious
next-first = refl

next-after : number_after (Some 4) Next ≡ Ok 5
next-after = refl

next-after_the_greatest : number_after (Some 2147483647) Next ≡ Err PriorityLimit
next-after_the_greatest = refl

-- ---- applications

application-levels : application_of (codes "App(a(b)c)") ≡ Ok (codes "App", codes "a(b)c")
unfolding application_of
application-levels = refl

application-open : application_of (codes "App(a) b") ≡ Err BadApplication
unfolding application_of
application-open = refl

application-old_form : application_of (codes "a,b(c)") ≡ Err (LeftOut OldForm)
unfolding application_of
application-old_form = refl

-- ---- whole texts

plan_and_notes-empty : plan_and_notes [] ≡ Ok (record { globals = []; contexts = [] }, [])
unfolding plan_and_notes lines_of plan_of notes_of context_item
plan_and_notes-empty = refl

-- this many groups inside each other
nested : ℕ → List ℕ
nested zero = []
nested (suc depth) = codes "${" ++ (nested depth ++ codes "}")

-- groups nested 33 deep are too deep, 32 are not
plan_and_notes-too_deep : plan_and_notes (codes "[globals]" ++ 10 ∷ codes "A=" ++ nested 33) ≡ Err (plan_fault 2 TooDeep)
unfolding plan_and_notes lines_of context_item nesting_of reading_of levels depth_of nested
plan_and_notes-too_deep = refl

plan_and_notes-deep : plan_and_notes (codes "[globals]" ++ 10 ∷ codes "A=" ++ nested 32)
    ≡ Ok (record { globals = (record { name = codes "A"; value = nested 32 }) ∷ []; contexts = [] }, [])
unfolding plan_and_notes lines_of plan_of notes_of context_item nesting_of reading_of levels depth_of nested
plan_and_notes-deep = refl

-- a malformed application has no arguments whose depth could be checked
plan_and_notes-bad_application : plan_and_notes (codes "[m]" ++ 10 ∷ codes "exten=s,1,A(" ++ nested 33) ≡ Err (plan_fault 2 BadApplication)
unfolding plan_and_notes lines_of exten_entry name_of meaning_of spelling written_priority application_of context_item nesting_of reading_of levels depth_of nested
plan_and_notes-bad_application = refl

-- a line with one comma is too short, whatever its name
plan_and_notes-short : plan_and_notes (codes "[m]" ++ 10 ∷ codes "exten=a b,1") ≡ Err (plan_fault 2 ShortLine)
unfolding plan_and_notes lines_of exten_entry context_item
plan_and_notes-short = refl

-- a line that continues no extension, although it is too short
plan_and_notes-no_exten : plan_and_notes (codes "[m]" ++ 10 ∷ codes "same=1") ≡ Err (plan_fault 2 NoExten)
unfolding plan_and_notes lines_of same_entry context_item
plan_and_notes-no_exten = refl

-- the first line at a place counts, even across the sections of a context
plan_and_notes-double : plan_and_notes (codes "[a]" ++ 10 ∷ codes "exten=s,1,A" ++ 10 ∷ codes "[b]" ++ 10 ∷ codes "x=" ++ 10 ∷ codes "[a]" ++ 10 ∷ codes "exten=-s,1,B")
    ≡ Ok (
      record {
        globals = [];
        contexts =
            (record { name = codes "a"; entries = (record { name = Plain (codes "s"); priority = 1; label = None; application = codes "A"; arguments = [] }) ∷ []; includes = [] })
            ∷ (record { name = codes "b"; entries = []; includes = [] }) ∷ [];
      },
      (record { line = 4; kind = UnknownKey }) ∷ (record { line = 6; kind = DoublePriority }) ∷ [],
    )
unfolding plan_and_notes lines_of plan_of notes_of exten_entry name_of meaning_of spelling written_priority application_of context_item nesting_of reading_of levels depth_of
plan_and_notes-double = refl

-- `n` counts on after a dropped line; a label is taken only once; an include of a later context is known
plan_and_notes-next : plan_and_notes (codes "[a]" ++ 10 ∷ codes "exten=s,1(x),A" ++ 10 ∷ codes "same=n(x),B" ++ 10 ∷ codes "same=n,C" ++ 10 ∷ codes "include=b" ++ 10 ∷ codes "include=c" ++ 10 ∷ codes "[b]")
    ≡ Ok (
      record {
        globals = [];
        contexts =
            (record {
              name = codes "a";
              entries =
                  (record { name = Plain (codes "s"); priority = 1; label = Some (codes "x"); application = codes "A"; arguments = [] })
                  ∷ (record { name = Plain (codes "s"); priority = 3; label = None; application = codes "C"; arguments = [] }) ∷ [];
              includes = codes "b" ∷ codes "c" ∷ [];
            })
            ∷ (record { name = codes "b"; entries = []; includes = [] }) ∷ [];
      },
      (record { line = 3; kind = DoubleLabel }) ∷ (record { line = 6; kind = UnknownContext }) ∷ [],
    )
unfolding plan_and_notes lines_of plan_of notes_of exten_entry same_entry name_of meaning_of spelling written_priority application_of context_item nesting_of reading_of levels depth_of
plan_and_notes-next = refl

plan_and_notes-globals : plan_and_notes (codes "[GLOBALS]" ++ 10 ∷ codes "A=1" ++ 10 ∷ codes "=2" ++ 10 ∷ codes "A=")
    ≡ Ok (
      record { globals = (record { name = codes "A"; value = codes "1" }) ∷ (record { name = codes "A"; value = [] }) ∷ []; contexts = [] },
      (record { line = 3; kind = UnknownKey }) ∷ [],
    )
unfolding plan_and_notes lines_of plan_of notes_of context_item nesting_of reading_of levels depth_of
plan_and_notes-globals = refl

-- a fault of the text comes before a fault of an earlier line
plan_and_notes-text_first : plan_and_notes (codes "[m]" ++ 10 ∷ codes "exten=s,0,A" ++ 10 ∷ codes "abc") ≡ Err (Line 3 (Conf NoEquals))
unfolding plan_and_notes lines_of context_item
plan_and_notes-text_first = refl

plan_and_notes-lowest_line : plan_and_notes (codes "[m]" ++ 10 ∷ codes "exten=s,1" ++ 10 ∷ codes "exten=s,0,A") ≡ Err (plan_fault 2 ShortLine)
unfolding plan_and_notes lines_of exten_entry context_item
plan_and_notes-lowest_line = refl
