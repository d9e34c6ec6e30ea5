-- The nodes and names that are built from the entries of a context represent these entries.
use Rattle.std.proofs.Common.{◌≡◌, ℕ, zero, suc, ◌+◌, ◌-◌, ◌<◌, ◌≤◌, List, [], ◌∷◌, ◌++◌, length, map, take, drop, Option, Some, None, inl, inr, ◌⊎◌, arith, refl, sym, ap, subst, ◌∙◌, add-one, append_assoc, length-append}
use Rattle.std.specs.Prelude.{slice_get, slice_range, sum_by, filter_map}
use Rattle.std.specs.List.{AllByRecursion, cons_option}
use Rattle.std.proofs.lemmas.Option.{slice_get_within, slice_get_cases}
use Rattle.std.proofs.lemmas.List.{append-nil, length-take, length-drop, length-map}
use Rattle.std.proofs.lemmas.List.Sums.{sum_by-append}
use Rattle.std.proofs.Math.Seq.{take-add}
use Rattle.dp_pattern.specs.Name.{Meaning, Plain, Pattern}
use Rattle.dp_pattern.specs.declared.tail.Tail.{Tail}
use Rattle.dp_trie.specs.Known.{Known, most_added}
use Rattle.dp_trie.specs.Names.{own_plain, known_plain, ArePlainRanges}
use Rattle.dp_trie.specs.steps.Ranked.{known_now, hold_of, AreNamed, IsGroup, IsPlain, IsPattern, ArePlainFirst}
use Rattle.dp_trie.specs.Tree.{known_held, own, path_after, path_end, known_from, depth_below, IsRooted, IsRange, AreRanges, pattern_nodes, Reaches, Pushes}
use Rattle.dp_trie.specs.declared.node.HeldEntry.{HeldEntry}
use Rattle.dp_trie.specs.declared.node.Leaf as leaf
use Rattle.dp_trie.specs.declared.node.Node.{Node}
use Rattle.dp_trie.specs.declared.node.Step.TheVariants.{Class, Leaf}
use Rattle.dp_trie.specs.declared.plain.PlainName.{PlainName}
use Rattle.dp_trie.specs.declared.ranked.Ranked.{Ranked}
use Rattle.dp_trie.proofs.TreeLemmas.{drop-get, take-take, length-below}

-- ---- one more node

known_from-push : (held : List HeldEntry) (nodes : List Node) (path : List (List ℕ)) (node : Node) → known_from held path (nodes ++ node ∷ []) ≡ known_from held path nodes ++ own held (take node.depth (path_end path nodes)) node.step
known_from-push held [] path node = append-nil (own held (take node.depth path) node.step)
known_from-push held (n ∷ nodes) path node =
    ap (λ l. own held (take n.depth path) n.step ++ l) (known_from-push held nodes (path_after path n) node)
    ∙ sym (append_assoc (own held (take n.depth path) n.step) (known_from held (path_after path n) nodes) (own held (take node.depth (path_end (path_after path n) nodes)) node.step))

path_end-push : (nodes : List Node) (path : List (List ℕ)) (node : Node) → path_end path (nodes ++ node ∷ []) ≡ path_after (path_end path nodes) node
path_end-push [] path node = refl
path_end-push (n ∷ nodes) path node = path_end-push nodes (path_after path n) node

length-path_after : (path : List (List ℕ)) (node : Node) → node.depth ≤ length path → length (path_after path node) ≡ depth_below node.depth node.step
length-path_after path node few = let size = length-take node.depth path in length-below (take node.depth path) node.step node.depth (omega (arith, size, few))

rooted-push : (nodes : List Node) (path : List (List ℕ)) (node : Node) → IsRooted (length path) nodes → node.depth ≤ length (path_end path nodes) → IsRooted (length path) (nodes ++ node ∷ [])
rooted-push [] path node rooted few = (few, tt)
rooted-push (n ∷ nodes) path node rooted few =
    let size = length-path_after path n rooted.0 in
    (rooted.0, subst (λ d. IsRooted d (nodes ++ node ∷ [])) size (rooted-push nodes (path_after path n) node (subst (λ d. IsRooted d nodes) (sym size) rooted.1) few))

get-push : {X : Type 0} (xs : List X) (x y : X) (k : ℕ) → slice_get (xs ++ x ∷ []) k ≡ Some y → (slice_get xs k ≡ Some y) ⊎ (x ≡ y)
get-push [] x y zero e = inr (let same : x ≡ y = cc in same)
get-push [] x y (suc k) e = inl e
get-push (z ∷ xs) x y zero e = inl e
get-push (z ∷ xs) x y (suc k) e = get-push xs x y k e

ranges-push : (count : ℕ) (nodes : List Node) (node : Node) → AreRanges count nodes → IsRange count node.step → AreRanges count (nodes ++ node ∷ [])
ranges-push count nodes node each one place other here = elim (get-push nodes node other place here) [
  | inl before ↦ each place other before
  | inr same ↦ subst (λ (n : Node). IsRange count n.step) same one
]

-- ---- the nodes of one more pattern

abbrev class_node : ℕ → List ℕ → Node
class_node depth class = record { depth = depth; step = Class class }

abbrev pub leaf_node : ℕ → leaf.Leaf → Node
leaf_node depth l = record { depth = depth; step = Leaf l }

pub take-get : {X : Type 0} (xs : List X) (k : ℕ) (x : X) → slice_get xs k ≡ Some x → take (suc k) xs ≡ take k xs ++ x ∷ []
take-get [] k x e = absurd cc
take-get (y ∷ xs) zero x e = let same : y ≡ x = cc in ap (λ z. z ∷ []) same
take-get (y ∷ xs) (suc k) x e = ap (λ l. y ∷ l) (take-get xs k x e)

pub reaches-start : (old : List Node) (classes : List (List ℕ)) (from : ℕ) → take from (path_end [] old) ≡ take from classes → from ≤ length (path_end [] old) → Reaches old old classes from from
reaches-start old classes from same long = record {
  known = λ held. refl;
  path = same;
  long = long;
  rooted = λ rooted. rooted;
  ranges = λ count each. each;
  size = refl;
  nodes = λ l. refl;
}

pub reaches-push : (old new : List Node) (classes : List (List ℕ)) (from depth : ℕ) (class : List ℕ) → Reaches old new classes from depth → slice_get classes depth ≡ Some class → Reaches old (new ++ class_node depth class ∷ []) classes from (depth + 1)
reaches-push old new classes from depth class reached here = record {
  known = λ held. known_from-push held new [] (class_node depth class) ∙ (append-nil (known_from held [] new) ∙ reached.known held);
  path = path;
  long = (let size = ap length end in let parts = length-append (take depth (path_end [] new)) (class ∷ []) in let front = length-take depth (path_end [] new) in let long = reached.long in omega (arith, size, parts, front, long));
  rooted = λ rooted. rooted-push new [] (class_node depth class) (reached.rooted rooted) reached.long;
  ranges = λ count each. ranges-push count new (class_node depth class) (reached.ranges count each) tt;
  size = (let size = reached.size in let parts = length-append new (class_node depth class ∷ []) in omega (arith, size, parts));
  nodes = λ l.
      append_assoc new (class_node depth class ∷ []) (pattern_nodes (depth + 1) (drop (depth + 1) classes) l)
      ∙ (ap (λ d. new ++ class_node depth class ∷ pattern_nodes d (drop (depth + 1) classes) l) (add-one depth)
      ∙ (ap (λ cs. new ++ pattern_nodes depth cs l) (sym (drop-get classes depth class here))
      ∙ reached.nodes l));
}
  where
    end : path_end [] (new ++ class_node depth class ∷ []) ≡ take depth (path_end [] new) ++ class ∷ []
    end = path_end-push new [] (class_node depth class)

    whole : path_end [] (new ++ class_node depth class ∷ []) ≡ take (suc depth) classes
    whole = end ∙ (ap (λ p. p ++ class ∷ []) reached.path ∙ sym (take-get classes depth class here))

    path : take (depth + 1) (path_end [] (new ++ class_node depth class ∷ [])) ≡ take (depth + 1) classes
    path = ap (take (depth + 1)) whole ∙ (ap (λ n. take n (take (suc depth) classes)) (add-one depth) ∙ (take-take (suc depth) (suc depth) classes (omega arith) ∙ ap (λ n. take n classes) (sym (add-one depth))))

pub take-whole : {X : Type 0} (xs : List X) → take (length xs) xs ≡ xs
take-whole [] = refl
take-whole (x ∷ xs) = ap (λ l. x ∷ l) (take-whole xs)

pub reaches-leaf : (old new : List Node) (classes : List (List ℕ)) (from : ℕ) (l : leaf.Leaf) → Reaches old new classes from (length classes) → Pushes old (new ++ leaf_node (length classes) l ∷ []) classes l
reaches-leaf old new classes from l reached = record {
  known = λ held. known_from-push held new [] (leaf_node (length classes) l) ∙ (ap (λ p. known_from held [] new ++ own held p (Leaf l)) path ∙ ap (λ k. k ++ own held classes (Leaf l)) (reached.known held));
  path = path_end-push new [] (leaf_node (length classes) l) ∙ path;
  rooted = λ rooted. rooted-push new [] (leaf_node (length classes) l) (reached.rooted rooted) reached.long;
  ranges = λ count each one. ranges-push count new (leaf_node (length classes) l) (reached.ranges count each) one;
  size = (let size = reached.size in let parts = length-append new (leaf_node (length classes) l ∷ []) in omega (arith, size, parts));
}
  where
    path : take (length classes) (path_end [] new) ≡ classes
    path = reached.path ∙ take-whole classes

drop-whole : {X : Type 0} (xs : List X) → drop (length xs) xs ≡ []
drop-whole [] = refl
drop-whole (x ∷ xs) = drop-whole xs

-- the nodes that were added
pub reaches-nodes : (old new : List Node) (classes : List (List ℕ)) (from : ℕ) (l : leaf.Leaf) → Reaches old new classes from (length classes) → new ++ leaf_node (length classes) l ∷ [] ≡ old ++ pattern_nodes from (drop from classes) l
reaches-nodes old new classes from l reached = ap (λ cs. new ++ pattern_nodes (length classes) cs l) (sym (drop-whole classes)) ∙ reached.nodes l

-- ---- the entries of a group

-- an entry is what is kept of it, with its name
held_known : (known : Known) → known_held known.name (hold_of known) ≡ known
held_known known = refl

take-map : {X Y : Type 0} (f : X → Y) (n : ℕ) (xs : List X) → take n (map f xs) ≡ map f (take n xs)
take-map f zero xs = refl
take-map f (suc n) [] = refl
take-map f (suc n) (x ∷ xs) = ap (λ l. f x ∷ l) (take-map f n xs)

drop-map : {X Y : Type 0} (f : X → Y) (n : ℕ) (xs : List X) → drop n (map f xs) ≡ map f (drop n xs)
drop-map f zero xs = refl
drop-map f (suc n) [] = refl
drop-map f (suc n) (x ∷ xs) = drop-map f n xs

-- entries of one name are what is kept of them, with that name
named_held : (name : Meaning) (known : List Known) → AreNamed name known → map (known_held name) (map hold_of known) ≡ known
named_held name [] same = refl
named_held name (one ∷ known) same =
    ap (λ m. known_held m (hold_of one) ∷ map (known_held name) (map hold_of known)) (sym same.0)
    ∙ ap (λ l. one ∷ l) (named_held name known same.1)

abbrev group : List Known → ℕ → ℕ → List Known
group known from until = slice_range known from until

pub own_group : (known : List Known) (from until : ℕ) (name : Meaning) → IsGroup known from until name → map (known_held name) (slice_range (map hold_of known) from until) ≡ slice_range known from until
own_group known from until name is_group =
    ap (map (known_held name)) (ap (take (until - from)) (drop-map hold_of from known) ∙ take-map hold_of (until - from) (drop from known))
    ∙ named_held name (slice_range known from until) is_group.same

-- the first entries, and then those up to a later place
pub take-range : {X : Type 0} (xs : List X) (from until : ℕ) → from ≤ until → take until xs ≡ take from xs ++ slice_range xs from until
take-range xs from until few = ap (λ k. take k xs) (let e : until ≡ from + (until - from) = omega (arith, few) in e) ∙ take-add from (until - from) xs

-- ---- the nodes of the first entries

pub record IsBuilt (ranked : List Ranked) (nodes : List Node) (above : List (List ℕ)) (from : ℕ) : Type 0 where
  pub within : from ≤ length ranked
  pub known : known_from (map hold_of (map known_now ranked)) [] nodes ≡ take from (map known_now ranked)
  pub path : path_end [] nodes ≡ above
  pub rooted : IsRooted 0 nodes
  pub ranges : AreRanges (length ranked) nodes
  pub size : length nodes ≤ sum_by (λ known. most_added known.name) (take from (map known_now ranked))

pub built-start : (ranked : List Ranked) → IsBuilt ranked [] [] 0
built-start ranked = record {
  within = omega arith;
  known = refl;
  path = refl;
  rooted = tt;
  ranges = λ place node here. (let nothing : None ≡ Some node = here in absurd cc);
  size = omega arith;
}

added-some : (name : Meaning) (known : List Known) → AreNamed name known → 0 < length known → most_added name ≤ sum_by (λ one. most_added one.name) known
added-some name [] same some = absurd (omega (arith, some))
added-some name (one ∷ known) same some =
    let here : most_added one.name ≡ most_added name = ap most_added same.0 in
    let parts = sum_by-append (λ (k : Known). most_added k.name) (one ∷ []) known in
    omega (arith, here, parts)

pub built-push : (ranked : List Ranked) (nodes new : List Node) (above classes : List (List ℕ)) (tail : Tail) (from until : ℕ) → IsBuilt ranked nodes above from → IsGroup (map known_now ranked) from until (Pattern classes tail) → Pushes nodes new classes (record { tail = tail; from = from; until = until }) → IsBuilt ranked new classes until
built-push ranked nodes new above classes tail from until built is_group pushed = record {
  within = within;
  known =
      pushed.known held
      ∙ (ap (λ k. k ++ own held classes (Leaf l)) built.known
      ∙ (ap (λ k. take from known ++ k) (own_group known from until (Pattern classes tail) is_group)
      ∙ sym (take-range known from until few)));
  path = pushed.path;
  rooted = pushed.rooted built.rooted;
  ranges = pushed.ranges (length ranked) built.ranges (few, within);
  size = (
      let size = pushed.size in
      let before = built.size in
      let parts = ap (sum_by (λ (one : Known). most_added one.name)) (take-range known from until few) ∙ sum_by-append (λ (one : Known). most_added one.name) (take from known) (slice_range known from until) in
      let some = added-some (Pattern classes tail) (slice_range known from until) is_group.same long in
      omega (arith, size, before, parts, some));
}
  where
    known : List Known
    known = map known_now ranked

    held : List HeldEntry
    held = map hold_of known

    l : leaf.Leaf
    l = record { tail = tail; from = from; until = until }

    few : from ≤ until
    few = let later = is_group.later in omega (arith, later)

    within : until ≤ length ranked
    within = let inside = is_group.within in let same = length-map ranked known_now in omega (arith, inside, same)

    long : 0 < length (slice_range known from until)
    long =
        let later = is_group.later in
        let inside = is_group.within in
        let size = length-take (until - from) (drop from known) in
        let rest = length-drop from known in
        omega (arith, later, inside, size, rest)

past_end : {X : Type 0} (xs : List X) (from : ℕ) → from ≤ length xs → slice_get xs from ≡ None → from ≡ length xs
past_end [] zero few none = refl
past_end [] (suc from) few none = absurd (omega (arith, few))
past_end (x ∷ xs) zero few none = absurd cc
past_end (x ∷ xs) (suc from) few none = ap suc (past_end xs from (omega (arith, few)) none)

take-all_known : (ranked : List Ranked) (from : ℕ) → from ≤ length ranked → slice_get ranked from ≡ None → take from (map known_now ranked) ≡ map known_now ranked
take-all_known ranked from few none =
    ap (λ n. take n (map known_now ranked)) (past_end ranked from few none ∙ sym (length-map ranked known_now)) ∙ take-whole (map known_now ranked)

-- if no entries are left, all are there
pub built-end : (ranked : List Ranked) (nodes : List Node) (above : List (List ℕ)) (from : ℕ) → IsBuilt ranked nodes above from → slice_get ranked from ≡ None → IsBuilt ranked nodes above (length ranked) × (take (length ranked) (map known_now ranked) ≡ map known_now ranked)
built-end ranked nodes above from built none =
    let end = past_end ranked from built.within none in
    (subst (IsBuilt ranked nodes above) end built, ap (λ n. take n (map known_now ranked)) (sym end) ∙ take-all_known ranked from built.within none)

-- ---- the plain names of the first entries

pub record AreBuilt (ranked : List Ranked) (names : List PlainName) (from : ℕ) : Type 0 where
  pub within : from ≤ length ranked
  pub known : known_plain (map hold_of (map known_now ranked)) names ≡ take from (map known_now ranked)
  pub ranges : ArePlainRanges (length ranked) names

pub names-start : (ranked : List Ranked) → AreBuilt ranked [] 0
names-start ranked = record { within = omega arith; known = refl; ranges = tt }

known_plain-push : (held : List HeldEntry) (names : List PlainName) (plain : PlainName) → known_plain held (names ++ plain ∷ []) ≡ known_plain held names ++ own_plain held plain
known_plain-push held [] plain = append-nil (own_plain held plain)
known_plain-push held (n ∷ names) plain =
    ap (λ l. own_plain held n ++ l) (known_plain-push held names plain)
    ∙ sym (append_assoc (own_plain held n) (known_plain held names) (own_plain held plain))

ranges-plain : (count : ℕ) (names : List PlainName) (plain : PlainName) → ArePlainRanges count names → plain.from < plain.until → plain.until ≤ count → ArePlainRanges count (names ++ plain ∷ [])
ranges-plain count [] plain each from until = ((from, until), tt)
ranges-plain count (n ∷ names) plain each from until = (each.0, ranges-plain count names plain each.1 from until)

pub names-push : (ranked : List Ranked) (names : List PlainName) (text : List ℕ) (from until : ℕ) → AreBuilt ranked names from → IsGroup (map known_now ranked) from until (Plain text) → AreBuilt ranked (names ++ (record { name = text; from = from; until = until }) ∷ []) until
names-push ranked names text from until built is_group = record {
  within = within;
  known =
      known_plain-push held names plain
      ∙ (ap (λ k. k ++ own_plain held plain) built.known
      ∙ (ap (λ k. take from known ++ k) (own_group known from until (Plain text) is_group)
      ∙ sym (take-range known from until few)));
  ranges = ranges-plain (length ranked) names plain built.ranges is_group.later within;
}
  where
    known : List Known
    known = map known_now ranked

    held : List HeldEntry
    held = map hold_of known

    plain : PlainName
    plain = record { name = text; from = from; until = until }

    few : from ≤ until
    few = let later = is_group.later in omega (arith, later)

    within : until ≤ length ranked
    within = let inside = is_group.within in let same = length-map ranked known_now in omega (arith, inside, same)

pub names-end : (ranked : List Ranked) (names : List PlainName) (from : ℕ) → AreBuilt ranked names from → slice_get ranked from ≡ None → known_plain (map hold_of (map known_now ranked)) names ≡ map known_now ranked
names-end ranked names from built none = built.known ∙ take-all_known ranked from built.within none

-- ---- a group

abbrev Named : Meaning → Known → Type 0
Named name one = one.name ≡ name

pub all-push : {X : Type 0} (P : X → Type 0) (xs : List X) (x : X) → AllByRecursion P xs → P x → AllByRecursion P (xs ++ x ∷ [])
all-push P [] x each one = (one, tt)
all-push P (y ∷ xs) x each one = (each.0, all-push P xs x each.1 one)

get-drop : {X : Type 0} (n k : ℕ) (xs : List X) → slice_get (drop n xs) k ≡ slice_get xs (n + k)
get-drop zero k xs = ap (slice_get xs) (let e : k ≡ 0 + k = omega arith in e)
get-drop (suc n) k [] = refl
get-drop (suc n) k (x ∷ xs) = get-drop n k xs ∙ ap (slice_get (x ∷ xs)) (let e : suc (n + k) ≡ suc n + k = omega arith in e)

pub map-get : {X Y : Type 0} (f : X → Y) (xs : List X) (k : ℕ) (x : X) → slice_get xs k ≡ Some x → slice_get (map f xs) k ≡ Some (f x)
map-get f [] k x e = absurd cc
map-get f (y ∷ xs) zero x e = let same : y ≡ x = cc in ap (λ z. Some (f z)) same
map-get f (y ∷ xs) (suc k) x e = map-get f xs k x e

range-more : {X : Type 0} (xs : List X) (from until : ℕ) (x : X) → from ≤ until → slice_get xs until ≡ Some x → slice_range xs from (until + 1) ≡ slice_range xs from until ++ x ∷ []
range-more xs from until x few here =
    ap (λ n. take n (drop from xs)) (let e : until + 1 - from ≡ suc (until - from) = omega (arith, few) in e)
    ∙ take-get (drop from xs) (until - from) x (get-drop from (until - from) xs ∙ (ap (slice_get xs) (let e : from + (until - from) ≡ until = omega (arith, few) in e) ∙ here))

pub group-start : (ranked : List Ranked) (from : ℕ) (name : Meaning) (one : Ranked) → slice_get ranked from ≡ Some one → (known_now one).name ≡ name → IsGroup (map known_now ranked) from (from + 1) name
group-start ranked from name one here same = record {
  later = omega arith;
  within = (let inside = slice_get_within ranked from one here in let size = length-map ranked known_now in omega (arith, inside, size));
  same =
      subst (AreNamed name) (sym (range-more (map known_now ranked) from from (known_now one) (omega arith) (map-get known_now ranked from one here)))
      (subst (λ n. AreNamed name (take n (drop from (map known_now ranked)) ++ known_now one ∷ [])) (let e : 0 ≡ from - from = omega arith in e) (same, tt));
}

pub group-more : (ranked : List Ranked) (from until : ℕ) (name : Meaning) (one : Ranked) → IsGroup (map known_now ranked) from until name → slice_get ranked until ≡ Some one → (known_now one).name ≡ name → IsGroup (map known_now ranked) from (until + 1) name
group-more ranked from until name one is_group here same = record {
  later = (let later = is_group.later in omega (arith, later));
  within = (let inside = slice_get_within ranked until one here in let size = length-map ranked known_now in omega (arith, inside, size));
  same =
      subst (AreNamed name) (sym (range-more (map known_now ranked) from until (known_now one) (let later = is_group.later in omega (arith, later)) (map-get known_now ranked until one here)))
      (all-push (Named name) (slice_range (map known_now ranked) from until) (known_now one) is_group.same same);
}

-- ---- the classes that two patterns share

pub shared-step : (left right : List (List ℕ)) (k : ℕ) (x y : List ℕ) → slice_get left k ≡ Some x → slice_get right k ≡ Some y → x ≡ y → take k left ≡ take k right → take (k + 1) left ≡ take (k + 1) right
shared-step left right k x y here there same before =
    ap (λ n. take n left) (add-one k)
    ∙ (take-get left k x here
    ∙ (ap (λ l. l ++ x ∷ []) before
    ∙ (ap (λ z. take k right ++ z ∷ []) same
    ∙ (sym (take-get right k y there)
    ∙ ap (λ n. take n right) (sym (add-one k))))))

-- ---- plain names and patterns

pub plain-more : (ranked : List Ranked) (count : ℕ) (one : Ranked) → slice_get ranked count ≡ Some one → IsPlain (known_now one).name → AllByRecursion (λ (r : Ranked). IsPlain (known_now r).name) (take count ranked) → AllByRecursion (λ (r : Ranked). IsPlain (known_now r).name) (take (count + 1) ranked)
plain-more ranked count one here plain before =
    subst (AllByRecursion (λ (r : Ranked). IsPlain (known_now r).name)) (sym (ap (λ n. take n ranked) (add-one count) ∙ take-get ranked count one here))
    (all-push (λ (r : Ranked). IsPlain (known_now r).name) (take count ranked) one before plain)

pub by_places : {X : Type 0} (P : X → Type 0) (xs : List X) → ((k : ℕ) (x : X) → slice_get xs k ≡ Some x → P x) → AllByRecursion P xs
by_places P [] each = tt
by_places P (x ∷ xs) each = (each 0 x refl, by_places P xs (λ k y here. each (suc k) y here))

-- after the first pattern all are patterns
pub patterns-after : (ranked : List Ranked) (count : ℕ) (one : Ranked) → ArePlainFirst (map known_now ranked) → slice_get ranked count ≡ Some one → IsPattern (known_now one).name → AllByRecursion (λ (r : Ranked). IsPattern (known_now r).name) (drop count ranked)
patterns-after ranked count one first here pattern =
    subst (AllByRecursion (λ (r : Ranked). IsPattern (known_now r).name)) (sym (drop-get ranked count one here)) (pattern, rest)
  where
    rest : AllByRecursion (λ (r : Ranked). IsPattern (known_now r).name) (drop (count + 1) ranked)
    rest =
        by_places (λ (r : Ranked). IsPattern (known_now r).name) (drop (count + 1) ranked) (λ k r there.
        first count (count + 1 + k) (known_now one) (known_now r) (omega arith) (map-get known_now ranked count one here)
        (map-get known_now ranked (count + 1 + k) r (sym (get-drop (count + 1) k ranked) ∙ there)) pattern)

pub all-at : {X : Type 0} (P : X → Type 0) (xs : List X) (k : ℕ) (x : X) → AllByRecursion P xs → slice_get xs k ≡ Some x → P x
all-at P [] k x each here = absurd cc
all-at P (y ∷ xs) zero x each here = (let same : y ≡ x = cc in subst P same each.0)
all-at P (y ∷ xs) (suc k) x each here = all-at P xs k x each.1 here

-- the first of those that are kept, and one more
pub filter_map-more : {X Y : Type 0} (f : X → Option Y) (xs : List X) (k : ℕ) (x : X) → slice_get xs k ≡ Some x → filter_map f (take (k + 1) xs) ≡ filter_map f (take k xs) ++ filter_map f (x ∷ [])
filter_map-more {X = X} {Y = Y} f xs k x here = ap (filter_map f) (ap (λ n. take n xs) (add-one k) ∙ take-get xs k x here) ∙ parts (take k xs)
  where
    one : (o : Option Y) (ys zs : List Y) → cons_option o (ys ++ zs) ≡ cons_option o ys ++ zs
    one None ys zs = refl
    one (Some y) ys zs = refl

    parts : (ys : List X) → filter_map f (ys ++ x ∷ []) ≡ filter_map f ys ++ filter_map f (x ∷ [])
    parts [] = refl
    parts (y ∷ ys) = ap (cons_option (f y)) (parts ys) ∙ one (f y) (filter_map f ys) (filter_map f (x ∷ []))

pub group-start_at : (ranked : List Ranked) (from : ℕ) (name : Meaning) → from < length ranked → ((one : Ranked) → slice_get ranked from ≡ Some one → (known_now one).name ≡ name) → IsGroup (map known_now ranked) from (from + 1) name
group-start_at ranked from name within same = elim (slice_get_cases ranked from).1 [
  | inl some ↦ group-start ranked from name some.0 some.2 (same some.0 some.2)
  | inr past ↦ (let few = past.0 in absurd (omega (arith, few, within)))
]
