-- Lines that are taken one after another make the file that they are.
use Rattle.std.proofs.Common.{◌≡◌, ℕ, Bool, true, false, ◌||◌, List, [], ◌∷◌, ◌++◌, fold, Option, Some, None, is_some, Result, refl, ap, sym, ◌∙◌}
use Rattle.std.specs.List.{flat_map, list_any}
use Rattle.std.specs.Option.{option_or, option_to_list}
use Rattle.std.proofs.lemmas.List.{append-nil, append_assoc}
use Rattle.std.proofs.lemmas.List.Sums.{fold-append}
use Rattle.std.proofs.Math.Bool.{or-false}
use Rattle.dp_tests.specs.Files.{acts_at, before_tests, begins_test, dialplan_fault, expect_fault, fault_after, fault_at, head_fault, faults_after, file_by, file_in, head_by, head_of, is_beginning, setup_of, test_by, test_line, tests_of}
use Rattle.dp_tests.specs.steps.Drafts.{closed_file, drafted_after, drafted_by, fault_with, faults_from, file_or_faults, draft_result, has_head, nothing_drafted, with_dialplan_fault, with_head}
use Rattle.dp_tests.specs.declared.draft.TestDraft.{TestDraft}
use Rattle.dp_tests.specs.declared.fault.TestFault.{TestFault}
use Rattle.dp_tests.specs.declared.fault.TestFaultKind.{TestFaultKind}
use Rattle.dp_tests.specs.declared.file.Act.{Act}
use Rattle.dp_tests.specs.declared.file.Act.TheVariants as acts
use Rattle.dp_tests.specs.declared.file.HeadLine.{HeadLine}
use Rattle.dp_tests.specs.declared.file.Test.{Test}
use Rattle.dp_tests.specs.declared.file.TestFile.{TestFile}
use Rattle.dp_tests.specs.declared.file.TestLine.{TestLine}
use Rattle.dp_tests.specs.declared.meaning.HeadWord.{HeadWord}
use Rattle.dp_tests.specs.declared.meaning.HeadWord.TheVariants.{Dialplan, Queues, Clock, Assume}
use Rattle.dp_tests.specs.declared.meaning.LineMeaning.{LineMeaning}
use Rattle.dp_tests.specs.declared.meaning.LineMeaning.TheVariants.{Nothing, Head, Begin, Event, Expect, Faulty}
use Rattle.dp_tests.specs.declared.meaning.MeantLine.{MeantLine}

or-none : {X : Type 0} (o : Option X) → option_or o None ≡ o
or-none None = refl
or-none (Some x) = refl

or_assoc : {X : Type 0} (a b c : Option X) → option_or (option_or a b) c ≡ option_or a (option_or b c)
or_assoc None b c = refl
or_assoc (Some x) b c = refl

abbrev draft_of : Option HeadLine → Option HeadLine → Option HeadLine → Option HeadLine → List TestLine → List Test → Option Test → TestDraft
draft_of dialplan queues clock assume setup tests current =
    record { dialplan = dialplan; queues = queues; clock = clock; assume = assume; setup = setup; tests = tests; current = current }

abbrev meant_by : ℕ → LineMeaning → MeantLine
meant_by line meaning = record { line = line; meaning = meaning }

-- ---- the head

-- the line of the head with a word, of these four
abbrev head_for : HeadWord → Option HeadLine → Option HeadLine → Option HeadLine → Option HeadLine → Option HeadLine
head_for Dialplan dialplan queues clock assume = dialplan
head_for Queues dialplan queues clock assume = queues
head_for Clock dialplan queues clock assume = clock
head_for Assume dialplan queues clock assume = assume

abbrev head_in : HeadWord → TestDraft → Option HeadLine
head_in word draft = head_for word draft.dialplan draft.queues draft.clock draft.assume

-- the same with that of the lines to come, unless a test is open
abbrev head_total : Option HeadLine → HeadWord → Option Test → List MeantLine → Option HeadLine
head_total head word None lines = option_or head (head_of word lines)
head_total head word (Some test) lines = head

with_head-current : (draft : TestDraft) (word : HeadWord) (line : HeadLine) → (with_head draft word line).current ≡ draft.current
with_head-current draft Dialplan line = refl
with_head-current draft Queues line = refl
with_head-current draft Clock line = refl
with_head-current draft Assume line = refl

head_in-with_head : (word other : HeadWord) (draft : TestDraft) (line : HeadLine) → head_in word (with_head draft other line) ≡ option_or (head_in word draft) (head_by word other line)
head_in-with_head Dialplan Dialplan draft line = refl
head_in-with_head Dialplan Queues draft line = sym (or-none draft.dialplan)
head_in-with_head Dialplan Clock draft line = sym (or-none draft.dialplan)
head_in-with_head Dialplan Assume draft line = sym (or-none draft.dialplan)
head_in-with_head Queues Dialplan draft line = sym (or-none draft.queues)
head_in-with_head Queues Queues draft line = refl
head_in-with_head Queues Clock draft line = sym (or-none draft.queues)
head_in-with_head Queues Assume draft line = sym (or-none draft.queues)
head_in-with_head Clock Dialplan draft line = sym (or-none draft.clock)
head_in-with_head Clock Queues draft line = sym (or-none draft.clock)
head_in-with_head Clock Clock draft line = refl
head_in-with_head Clock Assume draft line = sym (or-none draft.clock)
head_in-with_head Assume Dialplan draft line = sym (or-none draft.assume)
head_in-with_head Assume Queues draft line = sym (or-none draft.assume)
head_in-with_head Assume Clock draft line = sym (or-none draft.assume)
head_in-with_head Assume Assume draft line = refl

module _ (word : HeadWord) (dialplan queues clock assume : Option HeadLine) (setup : List TestLine) (tests : List Test) (lines : List MeantLine) (number : ℕ) where
  head-turn : (current : Option Test) (meaning : LineMeaning)
      → head_total (head_in word (drafted_by (draft_of dialplan queues clock assume setup tests current) number meaning)) word (drafted_by (draft_of dialplan queues clock assume setup tests current) number meaning).current lines
      ≡ head_total (head_for word dialplan queues clock assume) word current (meant_by number meaning ∷ lines)
  head-turn None Nothing = refl
  head-turn (Some test) Nothing = refl
  head-turn None (Head other text turns) =
      let draft : TestDraft = draft_of dialplan queues clock assume setup tests None in
      let line : HeadLine = record { line = number; text = text; turns = turns } in
      ap (λ (current : Option Test). head_total (head_in word (with_head draft other line)) word current lines) (with_head-current draft other line)
      ∙ (ap (λ (head : Option HeadLine). option_or head (head_of word lines)) (head_in-with_head word other draft line)
      ∙ or_assoc (head_in word draft) (head_by word other line) (head_of word lines))
  head-turn (Some test) (Head Dialplan text turns) = refl
  head-turn (Some test) (Head Queues text turns) = refl
  head-turn (Some test) (Head Clock text turns) = refl
  head-turn (Some test) (Head Assume text turns) = refl
  head-turn None (Begin name) = sym (or-none (head_for word dialplan queues clock assume))
  head-turn (Some test) (Begin name) = refl
  head-turn None (Event act) = refl
  head-turn (Some test) (Event act) = refl
  head-turn None (Expect expectation) = refl
  head-turn (Some test) (Expect expectation) = refl
  head-turn None (Faulty kind) = refl
  head-turn (Some test) (Faulty kind) = refl

head-end : (head : Option HeadLine) (word : HeadWord) (current : Option Test) → head ≡ head_total head word current []
head-end head word None = sym (or-none head)
head-end head word (Some test) = refl

-- the head of what the lines make
head-fold : (word : HeadWord) (draft : TestDraft) (lines : List MeantLine) → head_in word (fold drafted_after draft lines) ≡ head_total (head_in word draft) word draft.current lines
head-fold word draft [] = head-end (head_in word draft) word draft.current
head-fold word draft (line ∷ lines) =
    head-fold word (drafted_after draft line) lines
    ∙ head-turn word draft.dialplan draft.queues draft.clock draft.assume draft.setup draft.tests lines line.line draft.current line.meaning

-- the head of what all lines make. Before the first line the head has nothing
undrafted-head : (word : HeadWord) → head_in word nothing_drafted ≡ None
undrafted-head Dialplan = refl
undrafted-head Queues = refl
undrafted-head Clock = refl
undrafted-head Assume = refl

head-all : (word : HeadWord) (lines : List MeantLine) → head_in word (fold drafted_after nothing_drafted lines) ≡ head_of word lines
head-all word lines =
    head-fold word nothing_drafted lines ∙ ap (λ (head : Option HeadLine). option_or head (head_of word lines)) (undrafted-head word)

-- ---- the setup

abbrev setup_total : List TestLine → Option Test → List MeantLine → List TestLine
setup_total setup None lines = setup ++ setup_of lines
setup_total setup (Some test) lines = setup

module _ (dialplan queues clock assume : Option HeadLine) (setup : List TestLine) (tests : List Test) (lines : List MeantLine) (number : ℕ) where
  setup-turn : (current : Option Test) (meaning : LineMeaning)
      → setup_total (drafted_by (draft_of dialplan queues clock assume setup tests current) number meaning).setup (drafted_by (draft_of dialplan queues clock assume setup tests current) number meaning).current lines
      ≡ setup_total setup current (meant_by number meaning ∷ lines)
  setup-turn None Nothing = refl
  setup-turn (Some test) Nothing = refl
  setup-turn None (Head Dialplan text turns) = refl
  setup-turn None (Head Queues text turns) = refl
  setup-turn None (Head Clock text turns) = refl
  setup-turn None (Head Assume text turns) = refl
  setup-turn (Some test) (Head Dialplan text turns) = refl
  setup-turn (Some test) (Head Queues text turns) = refl
  setup-turn (Some test) (Head Clock text turns) = refl
  setup-turn (Some test) (Head Assume text turns) = refl
  setup-turn None (Begin name) = sym (append-nil setup)
  setup-turn (Some test) (Begin name) = refl
  setup-turn None (Event act) = append_assoc setup (acts_at number act ∷ []) (setup_of lines)
  setup-turn (Some test) (Event act) = refl
  setup-turn None (Expect expectation) = refl
  setup-turn (Some test) (Expect expectation) = refl
  setup-turn None (Faulty kind) = refl
  setup-turn (Some test) (Faulty kind) = refl

setup-end : (setup : List TestLine) (current : Option Test) → setup ≡ setup_total setup current []
setup-end setup None = sym (append-nil setup)
setup-end setup (Some test) = refl

-- the setup of what the lines make
setup-fold : (draft : TestDraft) (lines : List MeantLine) → (fold drafted_after draft lines).setup ≡ setup_total draft.setup draft.current lines
setup-fold draft [] = setup-end draft.setup draft.current
setup-fold draft (line ∷ lines) =
    setup-fold (drafted_after draft line) lines
    ∙ setup-turn draft.dialplan draft.queues draft.clock draft.assume draft.setup draft.tests lines line.line draft.current line.meaning

-- ---- the tests

-- the lines of the test that is open
abbrev lines_until : List MeantLine → List TestLine
lines_until lines = flat_map test_line (before_tests lines)

abbrev tests_total : List Test → Option Test → List MeantLine → List Test
tests_total tests None lines = tests ++ tests_of lines
tests_total tests (Some test) lines = tests ++ (test_by test.name test.line (test.lines ++ lines_until lines) ∷ tests_of lines)

module _ (dialplan queues clock assume : Option HeadLine) (setup : List TestLine) (tests : List Test) (lines : List MeantLine) (number : ℕ) where
  -- one more line of the open test
  more : (test : Test) (act : Act)
      → tests ++ (test_by test.name test.line ((test.lines ++ acts_at number act ∷ []) ++ lines_until lines) ∷ tests_of lines)
      ≡ tests ++ (test_by test.name test.line (test.lines ++ (acts_at number act ∷ lines_until lines)) ∷ tests_of lines)
  more test act =
      ap (λ (inside : List TestLine). tests ++ (test_by test.name test.line inside ∷ tests_of lines))
      (append_assoc test.lines (acts_at number act ∷ []) (lines_until lines))

  tests-turn : (current : Option Test) (meaning : LineMeaning)
      → tests_total (drafted_by (draft_of dialplan queues clock assume setup tests current) number meaning).tests (drafted_by (draft_of dialplan queues clock assume setup tests current) number meaning).current lines
      ≡ tests_total tests current (meant_by number meaning ∷ lines)
  tests-turn None Nothing = refl
  tests-turn (Some test) Nothing = refl
  tests-turn None (Head Dialplan text turns) = refl
  tests-turn None (Head Queues text turns) = refl
  tests-turn None (Head Clock text turns) = refl
  tests-turn None (Head Assume text turns) = refl
  tests-turn (Some test) (Head Dialplan text turns) = refl
  tests-turn (Some test) (Head Queues text turns) = refl
  tests-turn (Some test) (Head Clock text turns) = more test (acts.Turns turns)
  tests-turn (Some test) (Head Assume text turns) = more test (acts.Turns turns)
  tests-turn None (Begin name) =
      ap (λ (before : List Test). before ++ (test_by name number (lines_until lines) ∷ tests_of lines)) (append-nil tests)
  tests-turn (Some test) (Begin name) =
      append_assoc tests (test ∷ []) (test_by name number (lines_until lines) ∷ tests_of lines)
      ∙ ap (λ (inside : List TestLine). tests ++ (test_by test.name test.line inside ∷ test_by name number (lines_until lines) ∷ tests_of lines))
      (sym (append-nil test.lines))
  tests-turn None (Event act) = refl
  tests-turn (Some test) (Event act) = more test act
  tests-turn None (Expect expectation) = refl
  tests-turn (Some test) (Expect expectation) = more test (acts.Expect expectation)
  tests-turn None (Faulty kind) = refl
  tests-turn (Some test) (Faulty kind) = refl

tests-end : (tests : List Test) (current : Option Test) → tests ++ option_to_list current ≡ tests_total tests current []
tests-end tests None = refl
tests-end tests (Some test) =
    ap (λ (inside : List TestLine). tests ++ (test_by test.name test.line inside ∷ [])) (sym (append-nil test.lines))

-- the tests of what the lines make, with the one that is open at the end
tests-fold : (draft : TestDraft) (lines : List MeantLine) → (fold drafted_after draft lines).tests ++ option_to_list (fold drafted_after draft lines).current ≡ tests_total draft.tests draft.current lines
tests-fold draft [] = tests-end draft.tests draft.current
tests-fold draft (line ∷ lines) =
    tests-fold (drafted_after draft line) lines
    ∙ tests-turn draft.dialplan draft.queues draft.clock draft.assume draft.setup draft.tests lines line.line draft.current line.meaning

-- ---- faults

or_assoc_bool : (a b c : Bool) → ((a || b) || c) ≡ (a || (b || c))
or_assoc_bool true b c = refl
or_assoc_bool false b c = refl

module _ (dialplan queues clock assume : Option HeadLine) (setup : List TestLine) (tests : List Test) (number : ℕ) where
  has_test-turn : (current : Option Test) (meaning : LineMeaning)
      → is_some (drafted_by (draft_of dialplan queues clock assume setup tests current) number meaning).current
      ≡ (is_some current || is_beginning meaning)
  has_test-turn None Nothing = refl
  has_test-turn (Some test) Nothing = refl
  has_test-turn None (Head Dialplan text turns) = refl
  has_test-turn None (Head Queues text turns) = refl
  has_test-turn None (Head Clock text turns) = refl
  has_test-turn None (Head Assume text turns) = refl
  has_test-turn (Some test) (Head Dialplan text turns) = refl
  has_test-turn (Some test) (Head Queues text turns) = refl
  has_test-turn (Some test) (Head Clock text turns) = refl
  has_test-turn (Some test) (Head Assume text turns) = refl
  has_test-turn None (Begin name) = refl
  has_test-turn (Some test) (Begin name) = refl
  has_test-turn None (Event act) = refl
  has_test-turn (Some test) (Event act) = refl
  has_test-turn None (Expect expectation) = refl
  has_test-turn (Some test) (Expect expectation) = refl
  has_test-turn None (Faulty kind) = refl
  has_test-turn (Some test) (Faulty kind) = refl

-- a test is open if one was open, or if a line begins one
has_test-fold : (draft : TestDraft) (lines : List MeantLine) → is_some (fold drafted_after draft lines).current ≡ (is_some draft.current || list_any begins_test lines)
has_test-fold draft [] = sym (or-false (is_some draft.current))
has_test-fold draft (line ∷ lines) =
    has_test-fold (drafted_after draft line) lines
    ∙ (ap (λ (t : Bool). t || list_any begins_test lines)
    (has_test-turn draft.dialplan draft.queues draft.clock draft.assume draft.setup draft.tests line.line draft.current line.meaning)
    ∙ or_assoc_bool (is_some draft.current) (begins_test line) (list_any begins_test lines))

has_head-head_in : (draft : TestDraft) (word : HeadWord) → has_head draft word ≡ is_some (head_in word draft)
has_head-head_in draft Dialplan = refl
has_head-head_in draft Queues = refl
has_head-head_in draft Clock = refl
has_head-head_in draft Assume = refl

-- the result of the lines before
abbrev made_of : List MeantLine → TestDraft
made_of before = fold drafted_after nothing_drafted before

-- whether the head has a line with a word, by the lines
has_head-made_of : (before : List MeantLine) (word : HeadWord) → has_head (made_of before) word ≡ is_some (head_of word before)
has_head-made_of before word = has_head-head_in (made_of before) word ∙ ap is_some (head-all word before)

-- the next line has the fault that it has after the lines before
fault_with-made_of : (before : List MeantLine) (meaning : LineMeaning) → fault_with (made_of before) meaning ≡ fault_after before meaning
fault_with-made_of before Nothing = refl
fault_with-made_of before (Head word text turns) =
    ap (λ (t : Bool). head_fault word t (has_head (made_of before) word)) (has_test-fold nothing_drafted before)
    ∙ ap (head_fault word (list_any begins_test before)) (has_head-made_of before word)
fault_with-made_of before (Begin name) = refl
fault_with-made_of before (Event act) = refl
fault_with-made_of before (Expect expectation) = ap expect_fault (has_test-fold nothing_drafted before)
fault_with-made_of before (Faulty kind) = refl

-- the faults that are found one after another are those of the lines
faults_from-made_of : (before lines : List MeantLine) → faults_from (made_of before) lines ≡ faults_after before lines
faults_from-made_of before [] = refl
faults_from-made_of before (line ∷ lines) =
    ap (λ (kind : Option TestFaultKind). fault_at line.line kind ++ faults_from (drafted_after (made_of before) line) lines)
    (fault_with-made_of before line.meaning)
    ∙ ap (λ (rest : List TestFault). fault_at line.line (fault_after before line.meaning) ++ rest)
    (ap (λ (draft : TestDraft). faults_from draft lines) (sym (fold-append drafted_after nothing_drafted before (line ∷ [])))
    ∙ faults_from-made_of (before ++ line ∷ []) lines)

-- ---- the file

-- the result for these parts of a file
abbrev result_of_parts : Option HeadLine → Option HeadLine → Option HeadLine → Option HeadLine → List TestLine → List Test → List TestFault → Result TestFile (List TestFault)
result_of_parts dialplan queues clock assume setup tests faults =
    file_or_faults (closed_file (draft_of dialplan queues clock assume setup tests None) dialplan)
    (with_dialplan_fault (is_some dialplan) faults)

made-file_by : (lines : List MeantLine) (dialplan : Option HeadLine) (faults : List TestFault)
    → result_of_parts dialplan (head_of Queues lines) (head_of Clock lines) (head_of Assume lines) (setup_of lines) (tests_of lines) faults
    ≡ file_by lines dialplan (dialplan_fault dialplan ++ faults)
made-file_by lines None faults = refl
made-file_by lines (Some dialplan) [] = refl
made-file_by lines (Some dialplan) (fault ∷ faults) = refl

-- the result for all lines is the file that they are, or all their faults
pub finished-file_in : (lines : List MeantLine) → draft_result (fold drafted_after nothing_drafted lines) (faults_from nothing_drafted lines) ≡ file_in lines
unfolding file_in
finished-file_in lines =
    let draft : TestDraft = fold drafted_after nothing_drafted lines in
    let tests : List Test = draft.tests ++ option_to_list draft.current in
    ap (λ (faults : List TestFault). result_of_parts draft.dialplan draft.queues draft.clock draft.assume draft.setup tests faults) (faults_from-made_of [] lines)
    ∙ (ap (λ (head : Option HeadLine). result_of_parts head draft.queues draft.clock draft.assume draft.setup tests (faults_after [] lines)) (head-all Dialplan lines)
    ∙ (ap (λ (head : Option HeadLine). result_of_parts (head_of Dialplan lines) head draft.clock draft.assume draft.setup tests (faults_after [] lines)) (head-all Queues lines)
    ∙ (ap (λ (head : Option HeadLine). result_of_parts (head_of Dialplan lines) (head_of Queues lines) head draft.assume draft.setup tests (faults_after [] lines)) (head-all Clock lines)
    ∙ (ap (λ (head : Option HeadLine). result_of_parts (head_of Dialplan lines) (head_of Queues lines) (head_of Clock lines) head draft.setup tests (faults_after [] lines)) (head-all Assume lines)
    ∙ (ap (λ (setup : List TestLine). result_of_parts (head_of Dialplan lines) (head_of Queues lines) (head_of Clock lines) (head_of Assume lines) setup tests (faults_after [] lines)) (setup-fold nothing_drafted lines)
    ∙ (ap (λ (all : List Test). result_of_parts (head_of Dialplan lines) (head_of Queues lines) (head_of Clock lines) (head_of Assume lines) (setup_of lines) all (faults_after [] lines)) (tests-fold nothing_drafted lines)
    ∙ made-file_by lines (head_of Dialplan lines) (faults_after [] lines)))))))
