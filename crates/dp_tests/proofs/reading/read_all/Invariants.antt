use Rattle.std.proofs.Common.{◌≡◌, ◌+◌, ◌≤◌, ◌++◌, fold, length}
use Rattle.dp_conf.proofs.LinesLemmas.{parts_left, left_len}
use Rattle.dp_tests.specs.Files.{lines_after, lines_of}
use Rattle.dp_tests.specs.steps.Drafts.{drafted_after, faults_from, nothing_drafted}
use Rattle.dp_tests.proofs.reading.read_all.Given as goal

abbrev pub invariant-loop-rest : goal.invariant-loop-rest
invariant-loop-rest l = record {
  counted : l.number + left_len l.rest ≤ length l.text + 1;
  drafted : fold drafted_after l.draft (lines_after l.number (parts_left l.rest)) ≡ fold drafted_after nothing_drafted (lines_of l.text);
  found : l.faults ++ faults_from l.draft (lines_after l.number (parts_left l.rest)) ≡ faults_from nothing_drafted (lines_of l.text);
}

abbrev pub decreases-loop-rest : goal.decreases-loop-rest
decreases-loop-rest l = left_len l.rest
