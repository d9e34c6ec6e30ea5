-- The bytes that the value of a computed function may have.
use Rattle.std.specs.Prelude.{◌+◌, ◌-◌, ◌&&◌, ◌||◌, ◌==◌, nat_le}
use Rattle.dp_pieces.specs.Bytes.{Bytes, digits, either}
use Rattle.dp_pieces.specs.Names.{Names}

-- the capital letters
abbrev pub capitals : Bytes
capitals byte = nat_le 65 byte && nat_le byte 90

-- the small letters
abbrev pub small_letters : Bytes
small_letters byte = nat_le 97 byte && nat_le byte 122

-- the letters of a set in the other case
abbrev pub other_case : Bytes → Bytes
other_case set byte = (capitals byte && set (byte + 32)) || (small_letters byte && set (byte - 32))

-- the bytes of a set, and its letters in the other case
abbrev pub either_case : Bytes → Bytes
either_case set = either set (other_case set)

-- the marks that a function may write: the usual delimiters of fields, and what stands around the name and the number of a caller
abbrev pub marks : Bytes
marks byte = byte == 44 || byte == 45 || byte == 34 || byte == 32 || byte == 60 || byte == 62

-- the bytes of a function whose argument has bytes of a set: any value, the argument in either case, a number, and those marks
abbrev pub function_bytes : Names → Bytes → Bytes
function_bytes names set = either names.all (either (either_case set) (either digits marks))
