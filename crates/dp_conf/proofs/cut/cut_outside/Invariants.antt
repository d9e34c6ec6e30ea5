use Rattle.std.proofs.Common.{◌≡◌, ◌≤◌, take, drop}
use Rattle.dp_conf.specs.Levels.{level_of, cut_after, stands_outside, cut_outside}
use Rattle.dp_conf.proofs.cut.cut_outside.Given as goal

abbrev pub invariant-loop-at : goal.invariant-loop-at
invariant-loop-at l = record {
  bound : l.level ≤ l.at;
  level : l.level ≡ level_of (take l.at l.text);
  cut : cut_after (stands_outside l.byte) (take l.at l.text) (drop l.at l.text) ≡ cut_outside l.byte l.text;
}
