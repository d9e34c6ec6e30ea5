use Rattle.std.proofs.Common.{◌≡◌, ◌+◌, ◌≤◌, length}
use Rattle.dp_conf.specs.Answers.{with_front, all_of}
use Rattle.dp_commands.specs.Script.{script_by}
use Rattle.dp_conf.proofs.LinesLemmas.{parts_left, left_len}
use Rattle.dp_commands.proofs.ScriptLemmas.{readings_from}
use Rattle.dp_commands.proofs.reading.read_script_by.Given as goal

abbrev pub invariant-loop-rest : goal.invariant-loop-rest
invariant-loop-rest g l = record {
  counted : l.number + left_len l.rest ≤ length l.text + 1;
  whole : with_front l.lines.items (all_of (readings_from (g.R.ReadLine.stands_for l.reader) l.number (parts_left l.rest)))
      ≡ script_by (g.R.ReadLine.stands_for l.reader) l.text;
}

abbrev pub decreases-loop-rest : goal.decreases-loop-rest
decreases-loop-rest g l = left_len l.rest
