use Rattle.std.proofs.Common.{◌≡◌, ◌++◌, take}
use Rattle.dp_graph.specs.Printing.{name_part}
use Rattle.dp_graph.proofs.names.push_name.Given as goal

-- the bytes so far are added
abbrev pub invariant-loop-byte : goal.invariant-loop-byte
invariant-loop-byte l = l.out.items ≡ l.fn.out.items ++ name_part (take l.byte-index l.text)
