-- Blanks, and a text without the blanks at its ends.
use Rattle.std.specs.Prelude.{ℕ, Bool, not, ◌&&◌, ◌==◌, nat_le, List, [], ◌∷◌, if◌then◌else◌}

-- a blank is a byte of 32 or less other than a line feed
abbrev pub is_blank : ℕ → Bool
is_blank byte = nat_le byte 32 && not (byte == 10)

-- the text from its first byte that is not a blank
abbrev pub trim_start : List ℕ → List ℕ
trim_start [] = []
trim_start (b ∷ bs) = if is_blank b then trim_start bs else b ∷ bs

-- the byte before the kept text: a blank before an empty text is left out
abbrev pub before_kept : ℕ → List ℕ → List ℕ
before_kept byte [] = if is_blank byte then [] else byte ∷ []
before_kept byte (k ∷ kept) = byte ∷ k ∷ kept

-- the text up to its last byte that is not a blank
abbrev pub trim_end : List ℕ → List ℕ
trim_end [] = []
trim_end (b ∷ bs) = before_kept b (trim_end bs)

-- the text without the blanks at both ends
abbrev pub trim : List ℕ → List ℕ
trim text = trim_end (trim_start text)
