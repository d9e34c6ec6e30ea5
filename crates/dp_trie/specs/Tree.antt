-- A tree of patterns: the entries that its nodes represent, and the actions of a walk at a node.
use Rattle.std.specs.Prelude.{◌≡◌, ℕ, suc, ◌+◌, ◌<◌, ◌≤◌, Bool, true, false, not, nat_lt, List, [], ◌∷◌, ◌++◌, length, take, drop, map, slice_get, slice_index, slice_range, Option, None, Some, if◌then◌else◌}
use Rattle.std.specs.List.{find}
use Rattle.std.specs.Option.{option_map_or}
use Rattle.dp_pattern.specs.Name.{Meaning, Pattern, is_one_of}
use Rattle.dp_pattern.specs.Walk.{Walked, Refused, Short, After, walk_after}
use Rattle.dp_pattern.specs.declared.tail.Tail.{Tail}
use Rattle.dp_pattern.specs.declared.tail.Tail.TheVariants.{End, Dot, Bang}
use Rattle.dp_trie.specs.Asked.{Wanted, Rise, holds, hit_held}
use Rattle.dp_trie.specs.Known.{Known}
use Rattle.dp_trie.specs.declared.node.HeldEntry.{HeldEntry}
use Rattle.dp_trie.specs.declared.node.Leaf as leaves
use Rattle.dp_trie.specs.declared.node.Node.{Node}
use Rattle.dp_trie.specs.declared.node.Step.{Step}
use Rattle.dp_trie.specs.declared.node.Step.TheVariants.{Class, Leaf}
use Rattle.dp_trie.specs.declared.walk.Visit.{Visit}
use Rattle.dp_trie.specs.declared.walk.Visit.TheVariants.{Enters, Fails, Holds}

-- the data held of an entry, with its name
abbrev pub known_held : Meaning → HeldEntry → Known
known_held name held = record { name = name; priority = held.priority; label = held.label; id = held.id }

-- the entries of a node below these classes: a leaf has those of one pattern
abbrev pub own : List HeldEntry → List (List ℕ) → Step → List Known
own held path (Class class) = []
own held path (Leaf leaf) = map (known_held (Pattern path leaf.tail)) (slice_range held leaf.from leaf.until)

-- the path after a node that is below these classes
abbrev pub path_below : List (List ℕ) → Step → List (List ℕ)
path_below path (Class class) = path ++ class ∷ []
path_below path (Leaf leaf) = path

-- the path after a node, which starts with the classes above the node
abbrev pub path_after : List (List ℕ) → Node → List (List ℕ)
path_after path node = path_below (take node.depth path) node.step

-- the entries of the nodes from a place on, given the classes after the node before it
abbrev pub known_from : List HeldEntry → List (List ℕ) → List Node → List Known
known_from held path [] = []
known_from held path (node ∷ nodes) = own held (take node.depth path) node.step ++ known_from held (path_after path node) nodes

-- the path after the last node
abbrev pub path_end : List (List ℕ) → List Node → List (List ℕ)
path_end path [] = path
path_end path (node ∷ nodes) = path_end (path_after path node) nodes

-- ---- the form of a tree

-- the nodes from the first one that is no deeper
abbrev pub nodes_past : ℕ → List Node → List Node
nodes_past depth [] = []
nodes_past depth (node ∷ nodes) = if nat_lt depth node.depth then nodes_past depth nodes else node ∷ nodes

-- the number of classes after a node at a depth
abbrev pub depth_below : ℕ → Step → ℕ
depth_below depth (Class class) = suc depth
depth_below depth (Leaf leaf) = depth

-- each node is at most as deep as the number of classes after the node before it
abbrev pub IsRooted : ℕ → List Node → Type 0
IsRooted depth [] = Unit {0}
IsRooted depth (node ∷ nodes) = (node.depth ≤ depth) × IsRooted (depth_below node.depth node.step) nodes

-- the place after everything below a node at a depth
pub record IsEnd (nodes : List Node) (place depth end : ℕ) : Type 0 where
  pub later : place < end
  pub within : end ≤ length nodes
  pub after : drop end nodes ≡ nodes_past depth (drop (place + 1) nodes)

-- the end of the node at a place
abbrev pub IsEndOf : List Node → ℕ → ℕ → Type 0
IsEndOf nodes place end = (node : Node) → slice_get nodes place ≡ Some node → IsEnd nodes place node.depth end

-- each node from a place on has its end next to it
pub record AreLinkedFrom (first : ℕ) (nodes : List Node) (ends : List ℕ) : Type 0 where
  pub count : length ends ≡ length nodes
  pub each : (place : ℕ) → first ≤ place → IsEndOf nodes place (slice_index ends place)

-- each node has its end next to it
pub record HaveEnds (nodes : List Node) (ends : List ℕ) : Type 0 where
  pub count : length ends ≡ length nodes
  pub each : (place : ℕ) → IsEndOf nodes place (slice_index ends place)

-- the range of a leaf lies within so many entries
abbrev pub IsRange : ℕ → Step → Type 0
IsRange count (Class class) = Unit {0}
IsRange count (Leaf leaf) = (leaf.from ≤ leaf.until) × (leaf.until ≤ count)

-- the range of each leaf lies within so many entries
abbrev pub AreRanges : ℕ → List Node → Type 0
AreRanges count nodes = (place : ℕ) (node : Node) → slice_get nodes place ≡ Some node → IsRange count node.step

-- the entries of a leaf are in the order of their priorities
abbrev pub Rises : List HeldEntry → Step → Type 0
Rises held (Class class) = Unit {0}
Rises held (Leaf leaf) = Rise (slice_range held leaf.from leaf.until)

-- the nodes are a tree over the held entries
pub record IsTree (held : List HeldEntry) (nodes : List Node) (ends : List ℕ) : Type 0 where
  pub linked : HaveEnds nodes ends
  pub rooted : IsRooted 0 nodes
  pub ranges : AreRanges (length held) nodes
  pub rise : (place : ℕ) (node : Node) → slice_get nodes place ≡ Some node → Rises held node.step

-- ---- the nodes of one more pattern

-- the nodes of these classes, starting at a depth, and the leaf below them
abbrev pub pattern_nodes : ℕ → List (List ℕ) → leaves.Leaf → List Node
pattern_nodes depth [] leaf = (record { depth = depth; step = Leaf leaf }) ∷ []
pattern_nodes depth (class ∷ classes) leaf = (record { depth = depth; step = Class class }) ∷ pattern_nodes (suc depth) classes leaf

-- the nodes of a pattern's classes follow other nodes, from a place in the pattern up to a depth
pub record Reaches (old new : List Node) (classes : List (List ℕ)) (from depth : ℕ) : Type 0 where
  pub known : (held : List HeldEntry) → known_from held [] new ≡ known_from held [] old
  pub path : take depth (path_end [] new) ≡ take depth classes
  pub long : depth ≤ length (path_end [] new)
  pub rooted : IsRooted 0 old → IsRooted 0 new
  pub ranges : (count : ℕ) → AreRanges count old → AreRanges count new
  pub size : length new + from ≡ length old + depth
  pub nodes : (leaf : leaves.Leaf) → new ++ pattern_nodes depth (drop depth classes) leaf ≡ old ++ pattern_nodes from (drop from classes) leaf

-- the nodes of a pattern and its leaf follow other nodes
pub record Pushes (old new : List Node) (classes : List (List ℕ)) (leaf : leaves.Leaf) : Type 0 where
  pub known : (held : List HeldEntry) → known_from held [] new ≡ known_from held [] old ++ own held classes (Leaf leaf)
  pub path : path_end [] new ≡ classes
  pub rooted : IsRooted 0 old → IsRooted 0 new
  pub ranges : (count : ℕ) → AreRanges count old → IsRange count (Leaf leaf) → AreRanges count new
  pub size : length new ≤ length old + length classes + 1

-- ---- a step of a walk

-- whether the class takes the digit of a number; after the last digit, names that go on are still below
abbrev pub takes : Bool → List ℕ → List ℕ → ℕ → Bool
takes more digits class number = option_map_or (is_one_of class) (slice_get digits number) more

-- whether a walk can still reach something below
abbrev pub is_alive : Bool → Walked → Bool
is_alive more Refused = false
is_alive more Short = more
is_alive more (After digits) = true

-- whether the classes of a path take the digits, up to their end if the question asks for names that go on
abbrev pub alive : Bool → List (List ℕ) → List ℕ → Bool
alive more path digits = is_alive more (walk_after path digits)

-- whether the tail allows the digits that are left after so many of them, for a match or for going on
abbrev pub allows : Bool → Tail → ℕ → ℕ → Bool
allows false End number count = not (nat_lt number count)
allows false Dot number count = nat_lt number count
allows false Bang number count = true
allows true End number count = nat_lt count number
allows true Dot number count = true
allows true Bang number count = false

abbrev pub hold_or_pass : Option HeldEntry → Visit
hold_or_pass None = Enters
hold_or_pass (Some held) = Holds (hit_held held)

-- the action of a walk at a node
abbrev pub step_visit : List HeldEntry → Bool → Wanted → List ℕ → ℕ → Step → Visit
step_visit held more wanted digits depth (Class class) = if takes more digits class depth then Enters else Fails
step_visit held more wanted digits depth (Leaf leaf) =
    if allows more leaf.tail depth (length digits)
    then hold_or_pass (find (holds wanted) (slice_range held leaf.from leaf.until)) else Enters
