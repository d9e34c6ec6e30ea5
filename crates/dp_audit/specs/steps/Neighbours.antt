-- A step of the code: which entries of a context have others with the same name before or after them. The result is `has_greater` and
-- `has_lower` of Findings.
use Rattle.std.specs.Prelude.{◌≡◌, ℕ, ◌+◌, ◌<◌, Bool, true, false, List, length, get_or, slice_get, slice_set, Option, None, Some}
use Rattle.std.specs.Option.{option_map_or}
use Rattle.dp_plan.specs.Extensions.{same_name}
use Rattle.dp_plan.specs.Ranking.{ranked_entry}
use Rattle.dp_plan.specs.declared.entry.Entry.{Entry}
use Rattle.dp_plan.specs.declared.entry.EntryId.{EntryId}

-- whether both are entries with the same name
abbrev pub are_of_one_name : Option Entry → Option Entry → Bool
are_of_one_name None b = false
are_of_one_name (Some a) None = false
are_of_one_name (Some a) (Some b) = same_name a.name b.name

-- whether the entry at a place in a ranking has an entry with the same name after it
abbrev pub is_followed : List Entry → List EntryId → ℕ → Bool
is_followed entries ids place = are_of_one_name (ranked_entry entries ids place) (ranked_entry entries ids (place + 1))

-- the marks with that of the entry at the place set, if there is one
abbrev pub with_mark : List EntryId → ℕ → List Bool → List Bool
with_mark ids place marks = option_map_or (λ id. slice_set marks id.entry true) (slice_get ids place) marks

-- the entry with the number is this far after one of the first places whose entry has one with the same name after it
pub record IsAfter (entries : List Entry) (ids : List EntryId) (shift count number : ℕ) : Type 0 where
  pub place : ℕ
  pub id : EntryId
  pub below : place < count
  pub followed : is_followed entries ids place ≡ true
  pub there : slice_get ids (place + shift) ≡ Some id
  pub same : id.entry ≡ number

-- the marks are those of the entries this far after one of the first places whose entry has one with the same name after it
pub record AreAfter (entries : List Entry) (ids : List EntryId) (shift count : ℕ) (marks : List Bool) : Type 0 where
  pub size : length marks ≡ length entries
  pub marked : (number : ℕ) → get_or marks number false ≡ true → IsAfter entries ids shift count number
  pub all : (place : ℕ) (id : EntryId) → place < count → is_followed entries ids place ≡ true → slice_get ids (place + shift) ≡ Some id → id.entry < length entries → get_or marks id.entry false ≡ true

-- each entry has a mark, which says whether the entry passes the test
abbrev pub AreMarks : (Entry → Bool) → List Entry → List Bool → Type 0
AreMarks test entries marks = (number : ℕ) (entry : Entry) → slice_get entries number ≡ Some entry → get_or marks number false ≡ test entry
