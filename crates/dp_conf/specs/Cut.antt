-- The first byte of a text, and a text cut once at the first or the last occurrence of a byte.
use Rattle.std.specs.Prelude.{ℕ, Bool, false, ◌==◌, nat_lt, List, [], ◌∷◌, length, Option, Some, None, if◌then◌else◌}
use Rattle.std.specs.Option.{option_map_or}
use Rattle.std.specs.List.{position_or_len, before_first, after_first}

-- whether the text begins with the byte
abbrev pub begins_with : ℕ → List ℕ → Bool
begins_with byte [] = false
begins_with byte (b ∷ bs) = b == byte

-- the text before the first such byte and the text after it, if there is one
abbrev pub cut_once : ℕ → List ℕ → Option (List ℕ × List ℕ)
cut_once byte text =
    if nat_lt (position_or_len (λ b. b == byte) text) (length text)
    then Some (before_first (λ b. b == byte) text, after_first (λ b. b == byte) text) else None

-- the text before the last such byte, if there is one
abbrev pub before_last : ℕ → List ℕ → Option (List ℕ)
before_last byte [] = None
before_last byte (b ∷ bs) = option_map_or (λ front. Some (b ∷ front)) (before_last byte bs) (if b == byte then Some [] else None)
