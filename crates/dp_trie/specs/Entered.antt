-- The number of nodes that a walk enters for a question. The tree of a context has the patterns of its entries, in the order in which a
-- look-up tries them. A pattern has one node for each of its classes, each below the one before, and one for its end; nodes that it shares
-- with the pattern above it exist once. A walk enters a node if the classes down to it take the digits, and it enters no node after the one
-- that answers.
use Rattle.std.specs.Prelude.{◌≡◌, ℕ, suc, ◌+◌, Bool, List, [], ◌∷◌, ◌++◌, take, drop, count_by, is_some, if◌then◌else◌}
use Rattle.std.specs.List.{find}
use Rattle.std.specs.Ordering.{is_eq}
use Rattle.dp_pattern.specs.Name.{Meaning, Plain, Pattern}
use Rattle.dp_pattern.specs.Order.{class_cmp, name_cmp}
use Rattle.dp_trie.specs.Asked.{Wanted, is_asked}
use Rattle.dp_trie.specs.Known.{Known, KeptContext, kept_at}
use Rattle.dp_trie.specs.Tree.{own, path_after, known_from, alive}
use Rattle.dp_trie.specs.declared.node.HeldEntry.{HeldEntry}
use Rattle.dp_trie.specs.declared.node.Node.{Node}

-- a node, as the classes that lead down to it, including its own
abbrev pub Down : Type 0
Down = List (List ℕ)

-- the classes of a pattern; a plain name has no nodes
abbrev pub pattern_classes : Meaning → List (List ℕ)
pattern_classes (Plain text) = []
pattern_classes (Pattern classes tail) = classes

-- the number of classes that two patterns share at their start
abbrev pub shared_count : List (List ℕ) → List (List ℕ) → ℕ
shared_count [] right = 0
shared_count (a ∷ left) [] = 0
shared_count (a ∷ left) (b ∷ right) = if is_eq (class_cmp a b) then suc (shared_count left right) else 0

-- the nodes below a node: one for each of these classes, and one for the end of the pattern
abbrev pub nodes_below : Down → List (List ℕ) → List Down
nodes_below down [] = down ∷ []
nodes_below down (class ∷ classes) = (down ++ class ∷ []) ∷ nodes_below (down ++ class ∷ []) classes

-- the nodes of a pattern after the classes that it shares
abbrev pub nodes_after : ℕ → List (List ℕ) → List Down
nodes_after shared classes = nodes_below (take shared classes) (drop shared classes)

-- the nodes that the name of an entry adds to those of the name above it; entries with the same name share an end
abbrev pub nodes_added : Meaning → Meaning → List Down
nodes_added above (Plain text) = []
nodes_added above (Pattern classes tail) =
    if is_eq (name_cmp above (Pattern classes tail)) then [] else nodes_after (shared_count (pattern_classes above) classes) classes

-- the number of these nodes that a walk enters
abbrev pub taken_count : Bool → List ℕ → List Down → ℕ
taken_count more digits nodes = count_by (λ down. alive more down digits) nodes

-- the number of nodes that a walk enters for the entries after a name, up to the first entry that the question asks for
abbrev pub entered_after : Bool → Wanted → List ℕ → Meaning → List Known → ℕ
entered_after more wanted digits above [] = 0
entered_after more wanted digits above (known ∷ entries) =
    taken_count more digits (nodes_added above known.name)
    + (if is_asked more wanted digits known then 0 else entered_after more wanted digits known.name entries)

-- the number of nodes that a walk enters in the tree of a context; there is no pattern above its first name
abbrev pub entered_count : Bool → Wanted → List ℕ → List Known → ℕ
entered_count more wanted digits entries = entered_after more wanted digits (Plain []) entries

-- the number of nodes that a walk enters in these contexts in turn, up to the first with an entry that the question asks for
abbrev pub entered_first : List KeptContext → Bool → Wanted → List ℕ → List ℕ → ℕ
entered_first kept more wanted digits [] = 0
entered_first kept more wanted digits (number ∷ order) =
    entered_count more wanted digits (kept_at kept number)
    + (if is_some (find (is_asked more wanted digits) (kept_at kept number)) then 0 else entered_first kept more wanted digits order)

-- ---- a tree

-- one more if the condition holds
abbrev pub one_more : Bool → ℕ → ℕ
one_more holds count = if holds then suc count else count

-- the number of nodes that a walk enters in a tree from a place on, given the classes after the node before it
abbrev pub tree_entered : List HeldEntry → Bool → Wanted → List ℕ → Down → List Node → ℕ
tree_entered held more wanted digits path [] = 0
tree_entered held more wanted digits path (node ∷ nodes) =
    one_more (alive more (path_after path node) digits)
    (if is_some (find (is_asked more wanted digits) (own held (take node.depth path) node.step)) then 0
    else tree_entered held more wanted digits (path_after path node) nodes)

-- the tree has the nodes of its entries, each of them once
pub record StandOnce (held : List HeldEntry) (nodes : List Node) : Type 0 where
  pub each : (more : Bool) (wanted : Wanted) (digits : List ℕ)
      → tree_entered held more wanted digits [] nodes ≡ entered_count more wanted digits (known_from held [] nodes)
