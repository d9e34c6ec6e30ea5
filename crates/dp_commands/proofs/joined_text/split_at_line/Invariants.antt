use Rattle.std.proofs.Common.{◌≡◌, ◌++◌, ◌≤◌, length, take}
use Rattle.std.specs.Option.{option_map}
use Rattle.dp_conf.specs.Lines.{parts_of}
use Rattle.dp_commands.specs.Joined.{lines_before, lines_after}
use Rattle.dp_commands.proofs.JoinedLemmas.{bytes_left}
use Rattle.dp_conf.proofs.LinesLemmas.{parts_left, left_len}
use Rattle.dp_commands.proofs.joined_text.split_at_line.Given as goal

abbrev pub invariant-loop-rest : goal.invariant-loop-rest
invariant-loop-rest l = record {
  within : l.start ≤ length l.text;
  place : take l.start l.text ++ bytes_left l.rest ≡ l.text;
  before : lines_before l.separator (parts_of l.text) ≡ option_map (λ later. take l.start l.text ++ later) (lines_before l.separator (parts_left l.rest));
  after : lines_after l.separator (parts_of l.text) ≡ lines_after l.separator (parts_left l.rest);
}

abbrev pub decreases-loop-rest : goal.decreases-loop-rest
decreases-loop-rest l = left_len l.rest
