use Rattle.std.proofs.Common.{◌≡◌, ◌-◌, ◌^◌, min, take, true}
use Rattle.std.specs.List.{list_all}
use Rattle.dp_conf.specs.Numbers.{is_digit, digits_number}
use Rattle.dp_conf.proofs.words.read_number.Given as goal

abbrev pub invariant-loop-byte : goal.invariant-loop-byte
invariant-loop-byte l = record {
  digits : list_all is_digit (take l.byte-index l.text) ≡ true;
  number : l.number ≡ min (digits_number (take l.byte-index l.text)) (2 ^ 64 - 1);
}
