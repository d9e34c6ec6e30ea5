-- A text and its last byte.
use Rattle.std.proofs.Common.{◌≡◌, ℕ, true, false, cond, eqb, List, [], ◌∷◌, ◌++◌, Option, Some, None, ap}
use Rattle.std.specs.Option.{option_map}
use Rattle.dp_files.specs.Priorities.{without_last}

-- the byte before the rest of the text
abbrev with_first : ℕ → Option (List ℕ) → Option (List ℕ)
with_first b front = option_map (λ front. b ∷ front) front

-- if the last byte is this one it is left out
pub without_last-found : (byte : ℕ) (front : List ℕ) (last : ℕ) → eqb last byte ≡ true → without_last byte (front ++ last ∷ []) ≡ Some front
without_last-found byte [] last e = ap (λ t. cond {A = Option (List ℕ)} t (Some []) None) e
without_last-found byte (b ∷ []) last e = ap (with_first b) (without_last-found byte [] last e)
without_last-found byte (b ∷ c ∷ front) last e = ap (with_first b) (without_last-found byte (c ∷ front) last e)

-- if it is another one there is no such text
pub without_last-other : (byte : ℕ) (front : List ℕ) (last : ℕ) → eqb last byte ≡ false → without_last byte (front ++ last ∷ []) ≡ None
without_last-other byte [] last e = ap (λ t. cond {A = Option (List ℕ)} t (Some []) None) e
without_last-other byte (b ∷ []) last e = ap (with_first b) (without_last-other byte [] last e)
without_last-other byte (b ∷ c ∷ front) last e = ap (with_first b) (without_last-other byte (c ∷ front) last e)
