-- A text in memory that grows, unless memory has run out.
use Rattle.std.specs.Prelude.{◌≡◌, ℕ, List, ◌++◌, Result, Ok, Err, ⊤}

-- the text grew by these bytes, or memory has run out, and then it stays so
abbrev pub Grows : {V E : Type 0} → (V → List ℕ) → Result V E → Result V E → List ℕ → Type 0
Grows text (Ok old) (Ok new) bytes = text new ≡ text old ++ bytes
Grows text (Ok old) (Err lacks) bytes = ⊤
Grows text (Err lacked) (Ok new) bytes = ⊥
Grows text (Err lacked) (Err lacks) bytes = ⊤
