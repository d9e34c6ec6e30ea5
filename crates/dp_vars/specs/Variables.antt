-- Variables: finite maps from names to values, both of which are bytes.
use Rattle.std.specs.Prelude.{ℕ, Bool, not, ◌||◌, List, [], ◌∷◌, Option, None, map, fold, unwrap_or, nat_eq}
use Rattle.std.specs.Option.{option_or}
use Rattle.std.specs.Ordering.{nat_cmp}
use Rattle.std.specs.declared.cmp.Ordering.{Ordering}
use Rattle.std.specs.Cmp.Lexicographic.{pointwise, slice_cmp}
use Rattle.std.specs.List.{starts_with}
use Rattle.std.specs.Coded.{Coded, coded_ℕ, coded_list}
use Rattle.std.specs.FinMap.{FinMap, code, empty, get, insert, retain_keys}
use Rattle.dp_vars.specs.declared.local.Local.{Local}

-- names with their values
abbrev pub Named : Type 0
Named = FinMap (slice_cmp nat_cmp) (List ℕ)

-- the stored form of such a map is its entries
abbrev pub named_code : Coded Named
named_code = code (coded_list coded_ℕ) (coded_list coded_ℕ)

-- the value of the name in the first of the maps that contains it
abbrev pub first_value : List Named → List ℕ → Option (List ℕ)
first_value [] name = None
first_value (m ∷ ms) name = option_or (get m name) (first_value ms name)

-- that value, or the empty text if there is none
abbrev pub value_or_empty : List Named → List ℕ → List ℕ
value_or_empty maps name = unwrap_or (first_value maps name) []

-- whether a name is the root of a tree of names, or begins with the front that the other names of this tree have
abbrev pub is_in_tree : List ℕ → List ℕ → List ℕ → Bool
is_in_tree root front name = pointwise nat_eq name root || starts_with nat_eq name front

-- the map without the names of a tree
abbrev pub without_tree : List ℕ → List ℕ → Named → Named
without_tree root front variables = retain_keys variables (λ name. not (is_in_tree root front name))

-- the map with the value of one local set
abbrev pub map_with : Named → Local → Named
map_with m local = insert m local.name local.value

-- the map of some locals; of two values with one name the later one counts
abbrev pub map_of : List Local → Named
map_of locals = fold map_with empty locals

-- entries with their keys as bytes
abbrev pub by_bytes : {K X : Type 0} → (K → List ℕ) → List (K × X) → List (List ℕ × X)
by_bytes bytes entries = map (λ e. (bytes e.0, e.1)) entries

-- the order of keys, by their bytes
abbrev pub in_order : {K : Type 0} → (K → List ℕ) → K → K → Ordering
in_order bytes a b = slice_cmp nat_cmp (bytes a) (bytes b)
