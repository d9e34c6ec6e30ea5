-- A test is a replay of the events that it gives.
use Rattle.std.proofs.Common.{◌≡◌, ℕ, List, [], ◌∷◌, ◌++◌, fold, Option, Some, None, refl, sym, ap, ◌∙◌, append_assoc}
use Rattle.std.proofs.Common.{append-nil}
use Rattle.std.proofs.lemmas.List.Sums.{fold-append}
use Rattle.dp_machine.specs.Replay.{final_world, world_after}
use Rattle.dp_machine.specs.World.{World}
use Rattle.dp_machine.specs.declared.event.Event.{Event}
use Rattle.dp_commands.specs.Script.{turns_of}
use Rattle.dp_wide_runs.specs.Turns.{wide_meanings}
use Rattle.dp_wide_runs.specs.declared.wide_turn.WideTurn.{WideTurn}
use Rattle.dp_tests.specs.declared.file.Act.{Act}
use Rattle.dp_tests.specs.declared.file.Act.TheVariants as acts
use Rattle.dp_tests.specs.declared.file.HeadLine.{HeadLine}
use Rattle.dp_tests.specs.declared.file.Test.{Test}
use Rattle.dp_tests.specs.declared.file.TestFile.{TestFile}
use Rattle.dp_tests.specs.declared.file.TestLine.{TestLine}
use Rattle.dp_test_runs.specs.Courses.{after_given, after_reload, after_turn, at_line, event_given, number_named, text_named}
use Rattle.dp_test_runs.specs.Ran.{ran_after, ran_by}
use Rattle.dp_test_runs.specs.Replays.{ReplaysCourse, events_by, events_of_act, events_of_fact, events_of_head, events_of_lines, events_of_test, events_of_turns, given_unless, reload_of}
use Rattle.dp_test_runs.specs.Tests.{Ended, after_act, after_fact, after_head, test_end, ended_after, ended_in, ended_test, failure_at_end, failure_of, go_on}
use Rattle.dp_test_runs.specs.declared.course.Course.{Course}
use Rattle.dp_test_runs.specs.declared.failure.Failure.{Failure}
use Rattle.dp_test_runs.specs.declared.named_text.NamedFileText.{NamedFileText}
use Rattle.dp_test_runs.specs.declared.ran_entries.RanEntry.{RanEntry}

-- what two lists of events run, one after the other
ran-append : (w : World) (xs ys : List Event) → ran_after w (xs ++ ys) ≡ ran_after w xs ++ ran_after (world_after wide_meanings w xs) ys
ran-append w [] ys = refl
ran-append w (x ∷ xs) ys =
    let next : World = final_world wide_meanings w x in
    ap (λ (more : List RanEntry). ran_by w x ++ more) (ran-append next xs ys)
    ∙ sym (append_assoc (ran_by w x) (ran_after next xs) (ran_after (world_after wide_meanings next xs) ys))

-- without events nothing changes
replays-none : (before after : Course) → after.machine ≡ before.machine → after.ran ≡ before.ran → ReplaysCourse before after []
replays-none before after world ran = record { world = world; ran = ran ∙ sym (append-nil before.ran) }

-- two replays, one after the other
replays-then : (a b c : Course) (xs ys : List Event) → ReplaysCourse a b xs → ReplaysCourse b c ys → ReplaysCourse a c (xs ++ ys)
replays-then a b c xs ys first later =
    record {
      world =
          later.world ∙ (ap (λ (w : World). world_after wide_meanings w ys) first.world
          ∙ sym (fold-append (final_world wide_meanings) a.machine xs ys));
      ran =
          later.ran ∙ (ap (λ (ran : List RanEntry). ran ++ ran_after b.machine ys) first.ran
          ∙ (ap (λ (w : World). (a.ran ++ ran_after a.machine xs) ++ ran_after w ys) first.world
          ∙ (append_assoc a.ran (ran_after a.machine xs) (ran_after (world_after wide_meanings a.machine xs) ys)
          ∙ ap (λ (more : List RanEntry). a.ran ++ more) (sym (ran-append a.machine xs ys)))));
    }

given_replays : (course : Course) (turn : WideTurn) (given : Option Event) → ReplaysCourse course (after_given course turn given) (events_by course.machine given)
given_replays course turn None = replays-none course (after_given course turn None) refl refl
given_replays course turn (Some event) = record { world = refl; ran = refl }

-- turns, one after another
turns_replay : (course : Course) (turns : List WideTurn) → ReplaysCourse course (fold after_turn course turns) (events_of_turns course turns)
turns_replay course [] = replays-none course course refl refl
turns_replay course (turn ∷ turns) =
    replays-then course (after_turn course turn) (fold after_turn (after_turn course turn) turns)
    (events_by course.machine (event_given course.machine turn)) (events_of_turns (after_turn course turn) turns)
    (given_replays course turn (event_given course.machine turn)) (turns_replay (after_turn course turn) turns)

-- an event line begins with the same world, and the same has run
from_line : (course after : Course) (events : List Event) → ReplaysCourse (at_line course) after events → ReplaysCourse course after events
from_line course after events line = record { world = line.world; ran = line.ran }

reload_replays : (course : Course) (file : Option ℕ) (text : Option (List ℕ))
    → ReplaysCourse course (after_reload course file text) (events_by course.machine (reload_of text))
reload_replays course file None = replays-none course (after_reload course file None) refl refl
reload_replays course file (Some text) = record { world = refl; ran = refl }

-- what a line does
act_replays : (files : List NamedFileText) (course : Course) (act : Act) → ReplaysCourse course (after_act files course act) (events_of_act files course act)
act_replays files course (acts.Turns turns) =
    from_line course (fold after_turn (at_line course) (turns_of turns)) (events_of_turns (at_line course) (turns_of turns))
    (turns_replay (at_line course) (turns_of turns))
act_replays files course (acts.Reload name) = reload_replays course (number_named files name) (text_named files name)
act_replays files course (acts.Expect expectation) = replays-none course course refl refl

-- what follows unless something has failed
unless_replays : (before after : Course) (failure : Option Failure) (later : Course → Ended) (xs ys : List Event) → ReplaysCourse before after xs
    → ReplaysCourse after (later after).course ys → ReplaysCourse before (go_on after failure later).course (xs ++ given_unless failure ys)
unless_replays before after None later xs ys first rest = replays-then before after (later after).course xs ys first rest
unless_replays before after (Some failure) later xs ys first rest =
    replays-then before after after xs [] first (replays-none after after refl refl)

-- lines, one after another until one fails
pub lines_replay : (files : List NamedFileText) (course : Course) (lines : List TestLine)
    → ReplaysCourse course (ended_after files course lines).course (events_of_lines files course lines)
lines_replay files course [] = replays-none course course refl refl
lines_replay files course (line ∷ lines) =
    let next : Course = after_act files course line.act in
    unless_replays course next (failure_of next line.line lines line.act) (λ (c : Course). ended_after files c lines)
    (events_of_act files course line.act) (events_of_lines files next lines) (act_replays files course line.act) (lines_replay files next lines)

end_by : (course : Course) (failure : Option Failure) (test : Test) → (go_on course failure (λ last. test_end last (failure_at_end last.machine test))).course ≡ course
end_by course None test = refl
end_by course (Some failure) test = refl

same_course : (before after other : Course) (events : List Event) → other ≡ after → ReplaysCourse before after events → ReplaysCourse before other events
same_course before after other events same replays =
    record {
      world = ap (λ (c : Course). c.machine) same ∙ replays.world;
      ran = ap (λ (c : Course). c.ran) same ∙ replays.ran;
    }

-- a test after its setup
rest_replays : (files : List NamedFileText) (test : Test) (course : Course)
    → ReplaysCourse course (ended_test files test course).course (events_of_lines files course test.lines)
rest_replays files test course =
    let last : Ended = ended_after files course test.lines in
    same_course course last.course (ended_test files test course).course (events_of_lines files course test.lines)
    (end_by last.course last.failure test) (lines_replay files course test.lines)

fact_replays : (course : Course) (head : Option HeadLine) → ReplaysCourse course (after_fact course head) (events_of_fact course head)
fact_replays course None = replays-none course course refl refl
fact_replays course (Some head) =
    from_line course (fold after_turn (at_line course) (turns_of head.turns)) (events_of_turns (at_line course) (turns_of head.turns))
    (turns_replay (at_line course) (turns_of head.turns))

-- a whole test
pub test_replays : (files : List NamedFileText) (file : TestFile) (test : Test) (course : Course)
    → ReplaysCourse course (ended_in files file test course).course (events_of_test files file test course)
test_replays files file test course =
    let clocked : Course = after_fact course file.clock in
    let headed : Course = after_head course file in
    let set : Ended = ended_after files headed file.setup in
    replays-then course headed (ended_in files file test course).course (events_of_head course file)
    (events_of_lines files headed file.setup ++ given_unless set.failure (events_of_lines files set.course test.lines))
    (replays-then course clocked headed (events_of_fact course file.clock) (events_of_fact clocked file.assume)
    (fact_replays course file.clock) (fact_replays clocked file.assume))
    (unless_replays headed set.course set.failure (ended_test files test) (events_of_lines files headed file.setup)
    (events_of_lines files set.course test.lines) (lines_replay files headed file.setup) (rest_replays files test set.course))
