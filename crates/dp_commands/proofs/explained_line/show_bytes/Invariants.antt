use Rattle.std.proofs.Common.{◌≡◌, ◌≤◌, ◌*◌, ◌++◌, drop}
use Rattle.std.specs.List.{flat_map}
use Rattle.arrayvec.specs.ArrayVec.{array_vec_len}
use Rattle.dp_commands.specs.Explained.{shown_byte}
use Rattle.dp_commands.proofs.explained_line.show_bytes.Given as goal

abbrev pub invariant-loop-byte : goal.invariant-loop-byte
invariant-loop-byte l = record {
  shown : l.shown.items ++ flat_map shown_byte (drop l.byte-index l.bytes) ≡ flat_map shown_byte l.bytes;
  room : array_vec_len l.shown ≤ l.byte-index * 4;
}
