-- The places of the elements of a list, given the hashes of their names.
use Rattle.std.specs.Prelude.{◌≡◌, ℕ, suc, Bool, false, ◌==◌, nat_eq, List, [], ◌∷◌, map, take, fold, Option, Some, None, slice_get, if◌then◌else◌}
use Rattle.std.specs.Char.{to_ascii_lowercase}
use Rattle.std.specs.Hash.FoldHasher as folding
use Rattle.std.specs.HashMap.{HashMap, get}
use Rattle.std.specs.List.{AllPairs}
use Rattle.std.specs.Option.{option_map, unwrap_or}
use Rattle.std.specs.declared.hash.BuildHasherDefault.{BuildHasherDefault}
use Rattle.std.specs.declared.hash.FoldHasher.{FoldHasher}
use Rattle.dp_conf.specs.Words.{same_word}
use Rattle.dp_queue.specs.Queues.{QueueOf}
use Rattle.dp_queue.specs.declared.places.Link.{Link}

-- a hasher after one more letter of a word
abbrev pub with_letter : FoldHasher → ℕ → FoldHasher
with_letter hasher letter = folding.write hasher (to_ascii_lowercase letter ∷ [])

-- the hash of a word, which does not depend on ASCII case
unfoldable pub word_hash : List ℕ → ℕ
word_hash word = folding.finish (fold with_letter folding.initial word)

-- the place in a list, given the place in its rest and whether its first element passes
abbrev pub later : Bool → Option ℕ → Option ℕ
later is_first None = if is_first then Some 0 else None
later is_first (Some place) = Some (suc place)

-- the place of the last element that passes a test
abbrev pub last_position : {X : Type 0} → (X → Bool) → List X → Option ℕ
last_position p [] = None
last_position p (x ∷ xs) = later (p x) (last_position p xs)

-- the last place with a hash
abbrev pub last_place : List ℕ → ℕ → Option ℕ
last_place hashes hash = last_position (λ other. other == hash) hashes

-- the last place with the same hash before a place
abbrev pub place_before : List ℕ → ℕ → Option ℕ → Option ℕ
place_before hashes place None = None
place_before hashes place (Some hash) = last_place (take place hashes) hash

-- the last places, given their hashes
abbrev pub LastsOf : Type 0
LastsOf = HashMap ℕ ℕ (BuildHasherDefault FoldHasher)

-- the hashes of some links
abbrev pub hashes_of : List Link → List ℕ
hashes_of links = map (λ link. link.hash) links

-- each hash has its last place
abbrev pub AreLasts : LastsOf → List ℕ → Type 0
AreLasts lasts hashes = (hash : ℕ) → get nat_eq lasts hash ≡ last_place hashes hash

-- each link has the last place before it with the same hash
abbrev pub AreChained : List Link → Type 0
AreChained links = (k : ℕ) (link : Link) → slice_get links k ≡ Some link → link.before ≡ last_place (take k (hashes_of links)) link.hash

-- the names of the queues
abbrev pub words_of : List QueueOf → List (List ℕ)
words_of queues = map (λ queue. queue.name) queues

-- the queue with a number has this name, in any ASCII case
abbrev pub is_worded_at : List ℕ → List QueueOf → ℕ → Bool
is_worded_at name queues number = unwrap_or (option_map (λ queue. same_word queue.name name) (slice_get queues number)) false

-- the hashes are those of the names of the queues, of which no two have the same name in any ASCII case
abbrev pub AreWorded : List ℕ → List QueueOf → Type 0
AreWorded hashes queues = (hashes ≡ map word_hash (words_of queues)) × AllPairs (λ name other. same_word name other ≡ false) (words_of queues)
