-- The position of a walk in a dialled text.
use Rattle.std.specs.Prelude.{◌≡◌, ℕ, ◌<◌, ◌≤◌, List, length, take, slice_get, Some}
use Rattle.dp_pattern.specs.Dashes.{without_dashes}
use Rattle.dp_trie.specs.declared.digits.Cursor.{Cursor}
use Rattle.dp_trie.specs.declared.digits.FirstDigits.{FirstDigits}

-- the cursor is at a place in the text, with so many digits before it
pub record Stands (text : List ℕ) (cursor : Cursor) : Type 0 where
  pub within : cursor.place ≤ length text
  pub before : cursor.number ≡ length (without_dashes (take cursor.place text))

-- the first bytes of the text up to the place are no dashes, so as many digits are before the place
abbrev pub IsClear : List ℕ → ℕ → Type 0
IsClear text count = Stands text (record { place = count; number = count })

-- the first digits are kept beside the text, with their number
pub record AreNear (text : List ℕ) (near : FirstDigits) : Type 0 where
  pub few : near.count ≤ length (without_dashes text)
  pub all : near.count < 32 → length (without_dashes text) ≤ near.count
  pub kept : (k d : ℕ) → k < 32 → slice_get (without_dashes text) k ≡ Some d → slice_get near.bytes k ≡ Some d
