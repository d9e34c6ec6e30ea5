use Rattle.std.proofs.Common.{◌≡◌, take}
use Rattle.dp_graph.proofs.label.latin_of.Given as goal

-- the bytes so far are added
abbrev pub invariant-loop-byte : goal.invariant-loop-byte
invariant-loop-byte l = l.list.items ≡ take l.byte-index l.text
