-- Sets of bytes, and texts with bytes of a set.
use Rattle.std.specs.Prelude.{◌≡◌, ℕ, zero, suc, Bool, true, false, ◌&&◌, ◌||◌, ◌==◌, nat_le, List}
use Rattle.std.specs.List.{AllByRecursion}
use Rattle.dp_conf.specs.Blanks.{is_blank}

-- a set of bytes
abbrev pub Bytes : Type 0
Bytes = ℕ → Bool

-- no byte
abbrev pub none : Bytes
none byte = false

-- the set of the digits
abbrev pub digits : Bytes
digits byte = nat_le 48 byte && nat_le byte 57

-- the bytes of a number: digits, or a minus sign
abbrev pub numeric : Bytes
numeric byte = digits byte || byte == 45

-- the bytes of either set
abbrev pub either : Bytes → Bytes → Bytes
either a b byte = a byte || b byte

-- the bytes in both sets
abbrev pub both : Bytes → Bytes → Bytes
both a b byte = a byte && b byte

-- the set contains a blank below a byte
unfoldable pub has_blank_below : ℕ → Bytes → Bool
has_blank_below zero set = false
has_blank_below (suc byte) set = (is_blank byte && set byte) || has_blank_below byte set

-- the set contains a blank: none is above 32
abbrev pub has_blank : Bytes → Bool
has_blank set = has_blank_below 33 set

-- each byte of the text is in the set
abbrev pub Within : Bytes → List ℕ → Type 0
Within set text = AllByRecursion (λ byte. set byte ≡ true) text

-- each byte of the one set is in the other
abbrev pub IsPart : Bytes → Bytes → Type 0
IsPart a b = (byte : ℕ) → a byte ≡ true → b byte ≡ true
