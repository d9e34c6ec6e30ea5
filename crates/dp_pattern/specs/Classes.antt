-- A class is a finite set of bytes, written as its members in byte order.
use Rattle.std.specs.Prelude.{ℕ, ◌-◌, ◌/◌, ◌%◌, Bool, ◌==◌, ◌&&◌, nat_le, List, slice_index}
use Rattle.std.specs.List.{filter, range_with_len}
use Rattle.std.specs.Int.{bit_at}
use Rattle.std.specs.Str.{byte}
use Rattle.dp_pattern.specs.declared.class_members.ClassMembers.{ClassMembers}
use Rattle.dp_pattern.specs.declared.class_members.ClassMembers.TheVariants.{Byte, Digits, Words}

-- the number of bytes
unfoldable pub byte_count : ℕ
byte_count = 256

-- the bytes that pass a test, in byte order
abbrev pub class_by : (ℕ → Bool) → List ℕ
class_by test = filter test (range_with_len 0 byte_count)

-- bit b of the words, counted from the lowest bit of the first
abbrev pub has_bit : List ℕ → ℕ → Bool
has_bit words b = bit_at (slice_index words (b / 64)) (b % 64) == 1

-- the members of a class that is kept as one bit for each byte
abbrev pub members_of : List ℕ → List ℕ
members_of words = class_by (has_bit words)

-- the number of bytes in one word
unfoldable pub word_bytes : ℕ
word_bytes = 64

-- the members of a class among the bytes of one word, which begin at a first one
abbrev pub members_in : ℕ → ℕ → List ℕ
members_in word first = filter (λ b. bit_at word (b - first) == 1) (range_with_len first word_bytes)

-- bit k of the mask is the byte `0` + k
abbrev pub has_digit : ℕ → ℕ → Bool
has_digit mask b = nat_le (byte "0") b && bit_at mask (b - byte "0") == 1

-- whether a class that is kept in this form contains the byte
abbrev pub has_member : ClassMembers → ℕ → Bool
has_member (Byte a) b = a == b
has_member (Digits mask) b = has_digit mask b
has_member (Words words) b = has_bit words.value b

-- the members of a class that is kept in this form
abbrev pub kept_members : ClassMembers → List ℕ
kept_members members = class_by (has_member members)
