-- A walk through a tree of patterns finds the first of its entries that is requested.
use Rattle.std.proofs.Common.{◌≡◌, ℕ, zero, suc, ◌+◌, ◌<◌, ◌≤◌, Bool, true, false, cond, ◌&&◌, List, [], ◌∷◌, ◌++◌, length, map, take, drop, Option, Some, None, MatchOption, arith, refl, sym, ap, subst, ◌∙◌, add-one, length-append}
use Rattle.std.specs.Prelude.{slice_get, slice_range, nat_lt, is_some}
use Rattle.std.specs.List.{find}
use Rattle.std.specs.Option.{option_map, option_or}
use Rattle.std.proofs.lemmas.Bool.{ltb-true, ltb-false}
use Rattle.std.proofs.lemmas.List.{length-take, take-append-le}
use Rattle.std.proofs.lemmas.List.Folds.{find-append}
use Rattle.std.proofs.lemmas.Option.{slice_get_within}
use Rattle.dp_pattern.specs.Name.{Pattern}
use Rattle.dp_pattern.specs.Walk.{walk_after, classes_of}
use Rattle.dp_trie.specs.Asked.{Wanted, fits, is_asked, holds, hit_held, hit_of}
use Rattle.dp_trie.specs.Entered.{one_more, tree_entered}
use Rattle.dp_trie.specs.Known.{Known}
use Rattle.dp_trie.specs.Tree.{known_held, own, path_below, path_after, known_from, nodes_past, depth_below, IsRooted, IsEnd, alive, takes, allows, hold_or_pass, step_visit}
use Rattle.dp_plan.specs.declared.entry.EntryId.{EntryId}
use Rattle.dp_trie.specs.declared.node.HeldEntry.{HeldEntry}
use Rattle.dp_trie.specs.declared.node.Leaf as leaf
use Rattle.dp_trie.specs.declared.node.Node.{Node}
use Rattle.dp_trie.specs.declared.node.Step.{Step}
use Rattle.dp_trie.specs.declared.node.Step.TheVariants.{Class, Leaf}
use Rattle.dp_trie.specs.declared.walk.Visit.TheVariants.{Enters, Fails, Holds}
use Rattle.dp_trie.proofs.WalkLemmas.{alive-push, alive-take, dead-whole, dead-fits, fits-allows}

-- ---- lists

pub take-take : {X : Type 0} (n m : ℕ) (xs : List X) → n ≤ m → take n (take m xs) ≡ take n xs
take-take zero m xs few = refl
take-take (suc n) zero xs few = absurd (omega (arith, few))
take-take (suc n) (suc m) [] few = refl
take-take (suc n) (suc m) (x ∷ xs) few = ap (λ l. x ∷ l) (take-take n m xs (omega (arith, few)))

pub take-all : {X : Type 0} (n : ℕ) (xs : List X) → length xs ≤ n → take n xs ≡ xs
take-all zero [] few = refl
take-all zero (x ∷ xs) few = absurd (omega (arith, few))
take-all (suc n) [] few = refl
take-all (suc n) (x ∷ xs) few = ap (λ l. x ∷ l) (take-all n xs (omega (arith, few)))

-- the elements before the last one
take-front : {X : Type 0} (xs : List X) (x : X) → take (length xs) (xs ++ x ∷ []) ≡ xs
take-front [] x = refl
take-front (y ∷ xs) x = ap (λ l. y ∷ l) (take-front xs x)

drop_at : {X : Type 0} (xs : List X) (i : ℕ) (x : X) → slice_get xs i ≡ Some x → drop i xs ≡ x ∷ drop (suc i) xs
drop_at [] i x e = absurd cc
drop_at (y ∷ xs) zero x e = let same : y ≡ x = cc in ap (λ z. z ∷ xs) same
drop_at (y ∷ xs) (suc i) x e = drop_at xs i x e

-- the element at a place is the first of the elements from there on
pub drop-get : {X : Type 0} (xs : List X) (i : ℕ) (x : X) → slice_get xs i ≡ Some x → drop i xs ≡ x ∷ drop (i + 1) xs
drop-get xs i x e = drop_at xs i x e ∙ ap (λ j. x ∷ drop j xs) (sym (add-one i))

pub drop-end : {X : Type 0} (xs : List X) (i : ℕ) → slice_get xs i ≡ None → drop i xs ≡ []
drop-end [] zero e = refl
drop-end [] (suc i) e = refl
drop-end (x ∷ xs) zero e = absurd cc
drop-end (x ∷ xs) (suc i) e = drop-end xs i e

-- the first in a list of images, if the test becomes another test or none
pub find_images : (b : Bool) (f : HeldEntry → Known) (test : Known → Bool) (inner : HeldEntry → Bool) → ((held : HeldEntry) → test (f held) ≡ (b && inner held)) → (xs : List HeldEntry) → find test (map f xs) ≡ cond b (option_map f (find inner xs)) None
find_images true f test inner each [] = refl
find_images false f test inner each [] = refl
find_images b f test inner each (x ∷ xs) = ap (λ t. cond t (Some (f x)) (find test (map f xs))) (each x) ∙ by b (inner x) (find_images b f test inner each xs)
  where
    by : (b i : Bool) → find test (map f xs) ≡ cond b (option_map f (find inner xs)) None → cond (b && i) (Some (f x)) (find test (map f xs)) ≡ cond b (option_map f (cond i (Some x) (find inner xs))) None
    by true true rest = refl
    by true false rest = rest
    by false i rest = rest

module _ (held : List HeldEntry) (more : Bool) (wanted : Wanted) (digits : List ℕ) where
  -- what is found in the nodes from some place on
  abbrev pub found_from : List (List ℕ) → List Node → Option Known
  found_from path nodes = find (is_asked more wanted digits) (known_from held path nodes)

  -- what is found at a step below a path and in the nodes after it
  abbrev found_step : List (List ℕ) → Step → List Node → Option Known
  found_step path step nodes = find (is_asked more wanted digits) (own held path step ++ known_from held (path_below path step) nodes)

  -- the number of nodes that are entered from some place on
  abbrev pub count_from : List (List ℕ) → List Node → ℕ
  count_from path nodes = tree_entered held more wanted digits path nodes

  -- the number that are entered at a step below a path and after it
  abbrev pub count_step : List (List ℕ) → Step → List Node → ℕ
  count_step path step nodes =
      one_more (alive more (path_below path step) digits) (cond (is_some (find (is_asked more wanted digits) (own held path step))) 0 (count_from (path_below path step) nodes))

  find-own : (path : List (List ℕ)) (l : leaf.Leaf) → find (is_asked more wanted digits) (own held path (Leaf l)) ≡ cond (fits more l.tail (walk_after path digits)) (option_map (known_held (Pattern path l.tail)) (find (holds wanted) (slice_range held l.from l.until))) None
  find-own path l =
      find_images (fits more l.tail (walk_after path digits)) (known_held (Pattern path l.tail)) (is_asked more wanted digits) (holds wanted) (λ h. refl) (slice_range held l.from l.until)

  -- nothing at a step below a path that begins with one that does not take the digits
  none-own : (n : ℕ) (path : List (List ℕ)) (step : Step) → alive more (take n path) digits ≡ false → find (is_asked more wanted digits) (own held path step) ≡ None
  none-own n path (Class class) dead = refl
  none-own n path (Leaf l) dead =
      find-own path l ∙ ap (λ b. cond b (option_map (known_held (Pattern path l.tail)) (find (holds wanted) (slice_range held l.from l.until))) None) (dead-fits more l.tail n path digits dead)

  past-own : (path : List (List ℕ)) (step : Step) (nodes : List Node) → find (is_asked more wanted digits) (own held path step) ≡ None → found_step path step nodes ≡ found_from (path_below path step) nodes
  past-own path step nodes none =
      find-append (is_asked more wanted digits) (own held path step) (known_from held (path_below path step) nodes)
      ∙ ap (λ o. option_or o (found_from (path_below path step) nodes)) none

  take-below : (n : ℕ) (path : List (List ℕ)) (step : Step) → n ≤ length path → take n (path_below path step) ≡ take n path
  take-below n path (Class class) few = take-append-le n path (class ∷ []) few
  take-below n path (Leaf l) few = refl

  longer-below : (path : List (List ℕ)) (step : Step) → length path ≤ length (path_below path step)
  longer-below path (Class class) = let long = length-append path (class ∷ []) in omega (arith, long)
  longer-below path (Leaf l) = omega arith

  -- everything deeper below a path that does not take the digits is skipped
  pub skip : (depth : ℕ) (nodes : List Node) (path : List (List ℕ)) → depth < length path → alive more (take (suc depth) path) digits ≡ false → found_from path nodes ≡ found_from (take depth path) (nodes_past depth nodes)
  skip depth [] path deep dead = refl
  skip depth (node ∷ nodes) path deep dead = by (λ p. skip depth nodes p) (nat_lt depth node.depth) refl
    where
      deeper : ((p : List (List ℕ)) → depth < length p → alive more (take (suc depth) p) digits ≡ false → found_from p nodes ≡ found_from (take depth p) (nodes_past depth nodes)) → depth < node.depth → found_from path (node ∷ nodes) ≡ found_from (take depth path) (nodes_past depth nodes)
      deeper inner below =
          let size = length-take node.depth path in
          let long = longer-below (take node.depth path) node.step in
          let room : suc depth ≤ length (take node.depth path) = omega (arith, size, below, deep) in
          let begins : take (suc depth) (take node.depth path) ≡ take (suc depth) path = take-take (suc depth) node.depth path (omega (arith, below)) in
          let same : take (suc depth) (path_after path node) ≡ take (suc depth) path = take-below (suc depth) (take node.depth path) node.step room ∙ begins in
          let shorter : take depth (path_after path node) ≡ take depth path = take-below depth (take node.depth path) node.step (omega (arith, room)) ∙ take-take depth node.depth path (omega (arith, below)) in
          past-own (take node.depth path) node.step nodes (none-own (suc depth) (take node.depth path) node.step (ap (λ p. alive more p digits) begins ∙ dead))
          ∙ (inner (path_after path node) (omega (arith, room, long)) (ap (λ p. alive more p digits) same ∙ dead)
          ∙ ap (λ p. found_from p (nodes_past depth nodes)) shorter)

      by : ((p : List (List ℕ)) → depth < length p → alive more (take (suc depth) p) digits ≡ false → found_from p nodes ≡ found_from (take depth p) (nodes_past depth nodes)) → (b : Bool) → nat_lt depth node.depth ≡ b → found_from path (node ∷ nodes) ≡ found_from (take depth path) (cond b (nodes_past depth nodes) (node ∷ nodes))
      by inner true e = deeper inner (ltb-true depth node.depth e)
      by inner false e = ap (λ p. found_step p node.step nodes) (sym (take-take node.depth depth path (ltb-false depth node.depth e)))

  -- and none of it is entered
  pub skip-count : (depth : ℕ) (nodes : List Node) (path : List (List ℕ)) → depth < length path → alive more (take (suc depth) path) digits ≡ false → count_from path nodes ≡ count_from (take depth path) (nodes_past depth nodes)
  skip-count depth [] path deep dead = refl
  skip-count depth (node ∷ nodes) path deep dead = by (λ p. skip-count depth nodes p) (nat_lt depth node.depth) refl
    where
      deeper : ((p : List (List ℕ)) → depth < length p → alive more (take (suc depth) p) digits ≡ false → count_from p nodes ≡ count_from (take depth p) (nodes_past depth nodes)) → depth < node.depth → count_from path (node ∷ nodes) ≡ count_from (take depth path) (nodes_past depth nodes)
      deeper inner below =
          let size = length-take node.depth path in
          let long = longer-below (take node.depth path) node.step in
          let room : suc depth ≤ length (take node.depth path) = omega (arith, size, below, deep) in
          let begins : take (suc depth) (take node.depth path) ≡ take (suc depth) path = take-take (suc depth) node.depth path (omega (arith, below)) in
          let same : take (suc depth) (path_after path node) ≡ take (suc depth) path = take-below (suc depth) (take node.depth path) node.step room ∙ begins in
          let shorter : take depth (path_after path node) ≡ take depth path = take-below depth (take node.depth path) node.step (omega (arith, room)) ∙ take-take depth node.depth path (omega (arith, below)) in
          let off = dead-whole more (suc depth) (path_after path node) digits (ap (λ p. alive more p digits) same ∙ dead) in
          let none = none-own (suc depth) (take node.depth path) node.step (ap (λ p. alive more p digits) begins ∙ dead) in
          ap (λ b. one_more b (cond (is_some (find (is_asked more wanted digits) (own held (take node.depth path) node.step))) 0 (count_from (path_after path node) nodes))) off
          ∙ (ap (λ o. cond (is_some o) 0 (count_from (path_after path node) nodes)) none
          ∙ (inner (path_after path node) (omega (arith, room, long)) (ap (λ p. alive more p digits) same ∙ dead)
          ∙ ap (λ p. count_from p (nodes_past depth nodes)) shorter))

      by : ((p : List (List ℕ)) → depth < length p → alive more (take (suc depth) p) digits ≡ false → count_from p nodes ≡ count_from (take depth p) (nodes_past depth nodes)) → (b : Bool) → nat_lt depth node.depth ≡ b → count_from path (node ∷ nodes) ≡ count_from (take depth path) (cond b (nodes_past depth nodes) (node ∷ nodes))
      by inner true e = deeper inner (ltb-true depth node.depth e)
      by inner false e = ap (λ p. count_step p node.step nodes) (sym (take-take node.depth depth path (ltb-false depth node.depth e)))

  -- ---- a step of the walk

  -- a node that is entered without a hit has nothing that is requested, and the path after it takes the digits
  pub entered : (step : Step) (path : List (List ℕ)) (depth : ℕ) (nodes : List Node) → length path ≡ depth → alive more path digits ≡ true → step_visit held more wanted digits depth step ≡ Enters → (alive more (path_below path step) digits ≡ true) × (find (is_asked more wanted digits) (own held path step) ≡ None)
  entered (Class class) path depth nodes size on e =
      (alive-push more path class digits on ∙ (ap (takes more digits class) size ∙ taken (takes more digits class depth) e), refl)
    where
      taken : (b : Bool) → cond b Enters Fails ≡ Enters → b ≡ true
      taken true e = refl
      taken false e = absurd cc
  entered (Leaf l) path depth nodes size on e = (on, find-own path l ∙ nothing (fits more l.tail (walk_after path digits)) agree)
    where
      all : List HeldEntry
      all = slice_range held l.from l.until

      agree : cond (fits more l.tail (walk_after path digits)) (hold_or_pass (find (holds wanted) (slice_range held l.from l.until))) Enters ≡ Enters
      agree =
          ap (λ b. cond b (hold_or_pass (find (holds wanted) (slice_range held l.from l.until))) Enters)
          (fits-allows more l.tail path digits on ∙ ap (λ n. allows more l.tail n (length digits)) size)
          ∙ e

      none : (o : Option HeldEntry) → hold_or_pass o ≡ Enters → option_map (known_held (Pattern path l.tail)) o ≡ None
      none None e = refl
      none (Some h) e = absurd cc

      nothing : (b : Bool) → cond b (hold_or_pass (find (holds wanted) (slice_range held l.from l.until))) Enters ≡ Enters → cond b (option_map (known_held (Pattern path l.tail)) (find (holds wanted) (slice_range held l.from l.until))) None ≡ None
      nothing true e = none (find (holds wanted) (slice_range held l.from l.until)) e
      nothing false e = refl

  entered-count : (step : Step) (path : List (List ℕ)) (nodes : List Node) → alive more (path_below path step) digits ≡ true → find (is_asked more wanted digits) (own held path step) ≡ None → count_step path step nodes ≡ suc (count_from (path_below path step) nodes)
  entered-count step path nodes on none =
      ap (λ b. one_more b (cond (is_some (find (is_asked more wanted digits) (own held path step))) 0 (count_from (path_below path step) nodes))) on
      ∙ ap (λ o. suc (cond (is_some o) 0 (count_from (path_below path step) nodes))) none

  -- a node that fails has nothing that is requested below it, and none of it is entered
  pub failed : (step : Step) (path : List (List ℕ)) (depth : ℕ) (nodes : List Node) → length path ≡ depth → alive more path digits ≡ true → step_visit held more wanted digits depth step ≡ Fails → (found_step path step nodes ≡ found_from path (nodes_past depth nodes)) × (count_step path step nodes ≡ count_from path (nodes_past depth nodes))
  failed (Class class) path depth nodes size on e =
      let long = length-append path (class ∷ []) in
      let front : take depth (path ++ class ∷ []) ≡ path = ap (λ n. take n (path ++ class ∷ [])) (sym size) ∙ take-front path class in
      let off : alive more (path ++ class ∷ []) digits ≡ false = alive-push more path class digits on ∙ (ap (takes more digits class) size ∙ refused (takes more digits class depth) e) in
      let dead : alive more (take (suc depth) (path ++ class ∷ [])) digits ≡ false =
      ap (λ p. alive more p digits) (take-all (suc depth) (path ++ class ∷ []) (omega (arith, long, size))) ∙ off in (
        skip depth nodes (path ++ class ∷ []) (omega (arith, long, size)) dead ∙ ap (λ p. found_from p (nodes_past depth nodes)) front,
        ap (λ b. one_more b (count_from (path ++ class ∷ []) nodes)) off
            ∙ (skip-count depth nodes (path ++ class ∷ []) (omega (arith, long, size)) dead ∙ ap (λ p. count_from p (nodes_past depth nodes)) front),
      )
    where
      refused : (b : Bool) → cond b Enters Fails ≡ Fails → b ≡ false
      refused true e = absurd cc
      refused false e = refl
  failed (Leaf l) path depth nodes size on e = absurd (never (allows more l.tail depth (length digits)) (find (holds wanted) (slice_range held l.from l.until)) e)
    where
      never : (b : Bool) (o : Option HeldEntry) → cond b (hold_or_pass o) Enters ≡ Fails → ⊥
      never true None e = absurd cc
      never true (Some h) e = absurd cc
      never false o e = absurd cc

  -- what is found at a leaf that has it
  pub record IsHeld (path : List (List ℕ)) (step : Step) (nodes : List Node) (depth : ℕ) (hit : EntryId) : Type 0 where
    pub known : Known
    pub found : found_step path step nodes ≡ Some known
    pub same : hit_of known ≡ hit
    pub deep : length (classes_of known.name) ≡ depth
    pub counted : count_step path step nodes ≡ 1

  pub held_at : (step : Step) (path : List (List ℕ)) (depth : ℕ) (nodes : List Node) (hit : EntryId) → length path ≡ depth → alive more path digits ≡ true → step_visit held more wanted digits depth step ≡ Holds hit → IsHeld path step nodes depth hit
  held_at (Class class) path depth nodes hit size on e = absurd (never (takes more digits class depth) e)
    where
      never : (b : Bool) → cond b Enters Fails ≡ Holds hit → ⊥
      never true e = absurd cc
      never false e = absurd cc
  held_at (Leaf l) path depth nodes hit size on e = by (fits more l.tail (walk_after path digits)) refl (find (holds wanted) (slice_range held l.from l.until)) refl agree
    where
      agree : cond (fits more l.tail (walk_after path digits)) (hold_or_pass (find (holds wanted) (slice_range held l.from l.until))) Enters ≡ Holds hit
      agree =
          ap (λ b. cond b (hold_or_pass (find (holds wanted) (slice_range held l.from l.until))) Enters)
          (fits-allows more l.tail path digits on ∙ ap (λ n. allows more l.tail n (length digits)) size)
          ∙ e

      by : (b : Bool) → fits more l.tail (walk_after path digits) ≡ b → (o : Option HeldEntry) → find (holds wanted) (slice_range held l.from l.until) ≡ o → cond b (hold_or_pass o) Enters ≡ Holds hit → IsHeld path (Leaf l) nodes depth hit
      by false fb o fo e = absurd cc
      by true fb None fo e = absurd cc
      by true fb (Some h) fo e = record {
        known = known_held (Pattern path l.tail) h;
        found =
            find-append (is_asked more wanted digits) (own held path (Leaf l)) (known_from held path nodes)
            ∙ ap (λ o. option_or o (found_from path nodes))
            (find-own path l ∙ (ap (λ b. cond b (option_map (known_held (Pattern path l.tail)) (find (holds wanted) (slice_range held l.from l.until))) None) fb ∙ ap (option_map (known_held (Pattern path l.tail))) fo));
        same = (let inner : hit_held h ≡ hit = cc in inner);
        deep = size;
        counted =
            ap (λ b. one_more b (cond (is_some (find (is_asked more wanted digits) (own held path (Leaf l)))) 0 (count_from path nodes))) on
            ∙ ap (λ o. suc (cond (is_some o) 0 (count_from path nodes)))
            (find-own path l ∙ (ap (λ b. cond b (option_map (known_held (Pattern path l.tail)) (find (holds wanted) (slice_range held l.from l.until))) None) fb ∙ ap (option_map (known_held (Pattern path l.tail))) fo));
      }

-- ---- the form of a tree

pub length-below : (path : List (List ℕ)) (step : Step) (depth : ℕ) → length path ≡ depth → length (path_below path step) ≡ depth_below depth step
length-below path (Class class) depth size = let long = length-append path (class ∷ []) in omega (arith, long, size)
length-below path (Leaf l) depth size = size

-- skipping leaves nodes that are rooted
rooted-nodes_past : (depth n : ℕ) (nodes : List Node) → IsRooted n nodes → IsRooted depth (nodes_past depth nodes)
rooted-nodes_past depth n [] rooted = tt
rooted-nodes_past depth n (node ∷ nodes) rooted = by (rooted-nodes_past depth (depth_below node.depth node.step) nodes rooted.1) (nat_lt depth node.depth) refl
  where
    by : IsRooted depth (nodes_past depth nodes) → (b : Bool) → nat_lt depth node.depth ≡ b → IsRooted depth (cond b (nodes_past depth nodes) (node ∷ nodes))
    by inner true e = inner
    by inner false e = (ltb-false depth node.depth e, rooted.1)

-- ---- the walk

add-here : (count before here after all : ℕ) → count + before ≡ all → before ≡ here → here ≡ after → count + after ≡ all
add-here count before here after all e same step = omega (arith, e, same, step)

add-one_here : (count before here after all : ℕ) → count + before ≡ all → before ≡ here → here ≡ suc after → count + 1 + after ≡ all
add-one_here count before here after all e same step = omega (arith, e, same, step)

add-last : (count before here all : ℕ) → count + before ≡ all → before ≡ here → here ≡ 1 → count + 1 ≡ all
add-last count before here all e same step = omega (arith, e, same, step)

zero-before : (n : ℕ) → 0 + n ≡ n
zero-before n = omega arith

none-after : (count before all : ℕ) → count + before ≡ all → before ≡ 0 → count ≡ all
none-after count before all e same = omega (arith, e, same)

-- a walk that has reached a place: what is found from there on is what is found in all nodes, and the classes on the way take the digits;
-- and what was entered and what is entered from there on is all that is entered
pub record IsAt (held : List HeldEntry) (more : Bool) (wanted : Wanted) (digits : List ℕ) (nodes : List Node) (place count : ℕ) : Type 0 where
  pub path : List (List ℕ)
  pub on : alive more path digits ≡ true
  pub same : found_from held more wanted digits path (drop place nodes) ≡ found_from held more wanted digits [] nodes
  pub counted : count + count_from held more wanted digits path (drop place nodes) ≡ count_from held more wanted digits [] nodes
  pub rooted : IsRooted (length path) (drop place nodes)
  pub deep : length path ≤ count
  pub few : count ≤ place
  pub within : place ≤ length nodes

module _ (held : List HeldEntry) (more : Bool) (wanted : Wanted) (digits : List ℕ) (nodes : List Node) where
  pub at-start : IsRooted 0 nodes → IsAt held more wanted digits nodes 0 0
  at-start rooted = record { path = []; on = refl; same = refl; counted = zero-before (count_from held more wanted digits [] nodes); rooted = rooted; deep = omega arith; few = omega arith; within = omega arith }

  module _ (place count : ℕ) (at : IsAt held more wanted digits nodes place count) (node : Node) (here : slice_get nodes place ≡ Some node) where
    abbrev above : List (List ℕ)
    above = take node.depth at.path

    abbrev rest : List Node
    rest = drop (place + 1) nodes

    form : IsRooted (length at.path) (node ∷ rest)
    form = subst (IsRooted (length at.path)) (drop-get nodes place node here) at.rooted

    size : length above ≡ node.depth
    size = let long = length-take node.depth at.path in let few = form.0 in omega (arith, long, few)

    taken : alive more above digits ≡ true
    taken = alive-take more node.depth at.path digits at.on

    whole : found_step held more wanted digits above node.step rest ≡ found_from held more wanted digits [] nodes
    whole = ap (found_from held more wanted digits at.path) (sym (drop-get nodes place node here)) ∙ at.same

    here_count : count_from held more wanted digits at.path (drop place nodes) ≡ count_step held more wanted digits above node.step rest
    here_count = ap (count_from held more wanted digits at.path) (drop-get nodes place node here)

    pub after-enter : step_visit held more wanted digits node.depth node.step ≡ Enters → IsAt held more wanted digits nodes (place + 1) (count + 1)
    after-enter e =
        let step = entered held more wanted digits node.step above node.depth rest size taken e in
        let long = length-below above node.step node.depth size in
        let few = form.0 in
        let inside = slice_get_within nodes place node here in
        record {
          path = path_below above node.step;
          on = step.0;
          same = sym (past-own held more wanted digits above node.step rest step.1) ∙ whole;
          counted = add-one_here count _ _ _ _ at.counted here_count (entered-count held more wanted digits node.step above rest step.0 step.1);
          rooted = subst (λ n. IsRooted n rest) (sym long) form.1;
          deep = (let deep = at.deep in below_by node.step long few deep);
          few = (let few = at.few in omega (arith, few));
          within = omega (arith, inside);
        }
      where
        below_by : (step : Step) → length (path_below above step) ≡ depth_below node.depth step → node.depth ≤ length at.path → length at.path ≤ count → length (path_below above step) ≤ count + 1
        below_by (Class class) long few deep = omega (arith, long, few, deep)
        below_by (Leaf l) long few deep = omega (arith, long, few, deep)

    pub after-fail : (end : ℕ) → IsEnd nodes place node.depth end → step_visit held more wanted digits node.depth node.step ≡ Fails → IsAt held more wanted digits nodes end count
    after-fail end is_end e =
        let few = form.0 in
        record {
          path = above;
          on = taken;
          same =
              ap (found_from held more wanted digits above) is_end.after
              ∙ (sym (failed held more wanted digits node.step above node.depth rest size taken e).0 ∙ whole);
          counted =
              add-here count _ _ _ _ at.counted here_count
              ((failed held more wanted digits node.step above node.depth rest size taken e).1 ∙ ap (count_from held more wanted digits above) (sym is_end.after));
          rooted = subst (λ n. IsRooted n (drop end nodes)) (sym size) (subst (IsRooted node.depth) (sym is_end.after) (rooted-nodes_past node.depth (depth_below node.depth node.step) rest form.1));
          deep = (let deep = at.deep in let s = size in omega (arith, deep, s, few));
          few = (let few = at.few in let later = is_end.later in omega (arith, few, later));
          within = is_end.within;
        }

    -- what is found in all nodes, if this one has it
    pub record IsFoundHere (hit : EntryId) : Type 0 where
      pub found : Some hit ≡ option_map hit_of (found_from held more wanted digits [] nodes)
      pub counted : count + 1 ≡ count_from held more wanted digits [] nodes
      pub most : count + 1 ≤ length nodes
      pub least : MatchOption (found_from held more wanted digits [] nodes) (Unit {0}) (λ known. length (classes_of known.name) ≤ count + 1)

    pub after-hold : (hit : EntryId) → step_visit held more wanted digits node.depth node.step ≡ Holds hit → IsFoundHere hit
    after-hold hit e =
        let is_held = held_at held more wanted digits node.step above node.depth rest hit size taken e in
        let inside = slice_get_within nodes place node here in
        let few = at.few in
        let deep = at.deep in
        let low = form.0 in
        let size_known = is_held.deep in
        let what : Some is_held.known ≡ found_from held more wanted digits [] nodes = sym is_held.found ∙ whole in
        record {
          found = ap Some (sym is_held.same) ∙ ap (option_map hit_of) what;
          counted = add-last count _ _ _ at.counted here_count is_held.counted;
          most = omega (arith, inside, few);
          least =
              let P : Option Known → Type 0 = λ o. MatchOption o (Unit {0}) (λ known. length (classes_of known.name) ≤ count + 1) in
              subst P what (omega (arith, deep, low, size_known));
        }

  -- a walk that has ended
  pub at-end : (place count : ℕ) → IsAt held more wanted digits nodes place count → slice_get nodes place ≡ None → found_from held more wanted digits [] nodes ≡ None
  at-end place count at e = sym at.same ∙ ap (found_from held more wanted digits at.path) (drop-end nodes place e)

  pub all-counted : (place count : ℕ) → IsAt held more wanted digits nodes place count → slice_get nodes place ≡ None → count ≡ count_from held more wanted digits [] nodes
  all-counted place count at e = none-after count _ _ at.counted (ap (count_from held more wanted digits at.path) (drop-end nodes place e))
