use Rattle.std.proofs.Common.{◌≡◌, ◌++◌, drop}
use Rattle.dp_commands.specs.Verbose.{indented_text, indented_from}
use Rattle.dp_commands.proofs.verbose.push_indented.Given as goal

abbrev pub invariant-loop-byte : goal.invariant-loop-byte
invariant-loop-byte l = record {
  kept : l.out.whole ≡ l.fn.out.whole;
  begun : l.out.begun ++ indented_from l.begins (drop l.byte-index l.text) ≡ l.fn.out.begun ++ indented_text l.text;
}
