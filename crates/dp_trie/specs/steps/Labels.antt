-- The labels of a context: a table from each label to the names that have it.
use Rattle.std.specs.Prelude.{◌≡◌, ℕ, List, [], ◌∷◌, ◌++◌, map, filter, Some, unwrap_or, Bool, nat_eq}
use Rattle.std.specs.List.Sorted.{IsStrictlySortedBy}
use Rattle.std.specs.Ordering.{nat_cmp, ordering_then}
use Rattle.std.specs.Cmp.Lexicographic.{pointwise}
use Rattle.std.specs.declared.cmp.Ordering.{Ordering}
use Rattle.indexmap.specs.IndexMap.{get}
use Rattle.dp_pattern.specs.Name.{Meaning, Plain, Pattern}
use Rattle.dp_pattern.specs.Order.{name_cmp}
use Rattle.dp_pattern.specs.Walk.{walk_after, classes_of, tail_of, is_match}
use Rattle.dp_plan.specs.Plan.{shares_label}
use Rattle.dp_trie.specs.Known.{Known}
use Rattle.dp_trie.specs.Names.{side_of}
use Rattle.dp_trie.specs.Names as names
use Rattle.dp_trie.specs.steps.Ranked.{AreInOrder}
use Rattle.dp_trie.specs.declared.labels.Holder.{Holder}
use Rattle.dp_trie.specs.declared.labels.Labels.{Labels}

-- an entry as a holder of its label
abbrev pub holder_of : Known → Holder
holder_of known = record { name = known.name; priority = known.priority }

-- the holders of a label among entries
abbrev pub holders_named : List ℕ → List Known → List Holder
holders_named label entries = map holder_of (filter (λ known. shares_label known.label (Some label)) entries)

-- the holders of a label in a table
abbrev pub held_of : Labels → List ℕ → List Holder
held_of labels label = unwrap_or (get (pointwise nat_eq) labels.rows label) []

-- the table has one more entry, after the others
abbrev pub Adds : Labels → Labels → Known → Type 0
Adds old new known = (label : List ℕ) → held_of new label ≡ held_of old label ++ holders_named label (known ∷ [])

-- the order of holders by name, and by priority for the same name
abbrev pub holder_cmp : Holder → Holder → Ordering
holder_cmp a b = ordering_then (name_cmp a.name b.name) (nat_cmp a.priority b.priority)

-- holders are in the order of their names
abbrev pub AreRising : List Holder → Type 0
AreRising holders = IsStrictlySortedBy holder_cmp holders

-- each label leads to its holders among the entries, in the order of the names
pub record AreLabels (entries : List Known) (labels : Labels) : Type 0 where
  pub each : (label : List ℕ) → held_of labels label ≡ holders_named label entries
  pub order : AreInOrder entries

-- whether the digits match the name
abbrev pub is_matched : List ℕ → Meaning → Bool
is_matched digits name = is_match (tail_of name) (walk_after (classes_of name) digits)

-- the rank of a name among those with a label: a plain name ranks by its side, and patterns come after all of them
abbrev pub name_rank : List ℕ → Meaning → ℕ
name_rank digits (Plain text) = names.rank (side_of text digits)
name_rank digits (Pattern classes tail) = 4
