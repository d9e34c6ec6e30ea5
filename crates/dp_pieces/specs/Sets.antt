-- Sets of bytes as four words with the bits of 64 bytes each.
use Rattle.std.specs.Prelude.{ℕ, ◌/◌, ◌%◌, ◌==◌, List, slice_index}
use Rattle.std.specs.Int.{bit_at}
use Rattle.dp_pieces.specs.Bytes.{Bytes}

-- the bytes whose bits are set, counted from the lowest bit of the first word
unfoldable pub set_by : List ℕ → Bytes
set_by words byte = bit_at (slice_index words (byte / 64)) (byte % 64) == 1
