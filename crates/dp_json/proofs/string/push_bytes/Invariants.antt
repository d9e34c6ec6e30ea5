use Rattle.std.proofs.Common.{◌≡◌, ◌++◌, take}
use Rattle.dp_json.specs.Strings.{bytes_text}
use Rattle.dp_json.proofs.string.push_bytes.Given as goal

-- the bytes so far are added
abbrev pub invariant-loop-byte : goal.invariant-loop-byte
invariant-loop-byte l = l.out.items ≡ l.fn.out.items ++ bytes_text l.utf8 (take l.byte-index l.text)
