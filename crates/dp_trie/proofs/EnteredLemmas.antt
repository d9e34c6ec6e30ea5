-- The number of nodes of a tree that are entered is the number for its entries.
use Rattle.std.proofs.Common.{◌≡◌, ◌≢◌, ℕ, zero, suc, ◌+◌, ◌<◌, ◌≤◌, min, Bool, true, false, cond, List, [], ◌∷◌, ◌++◌, length, map, take, drop, Option, Some, None, arith, refl, sym, ap, subst, ◌∙◌, inl, inr, is_eq, length-append}
use Rattle.std.specs.Prelude.{◌-◌, slice_get, slice_range, is_some}
use Rattle.std.specs.List.{find, AllByRecursion}
use Rattle.std.specs.Option.{option_map, option_or}
use Rattle.std.proofs.lemmas.List.{length-take, length-drop}
use Rattle.std.proofs.lemmas.List.Sums.{sum_by-append}
use Rattle.std.proofs.lemmas.List.Folds.{find-append}
use Rattle.std.proofs.lemmas.Option.{slice_get_cases, slice_get_within}
use Rattle.dp_pattern.specs.Name.{Meaning, Plain, Pattern}
use Rattle.dp_pattern.specs.Order.{class_cmp, name_cmp}
use Rattle.dp_pattern.specs.declared.tail.Tail.{Tail}
use Rattle.dp_pattern.proofs.OrderLemmas.{same_names, is_eq-Equal, classes_equal, class_cmp-same}
use Rattle.dp_plan.specs.declared.entry.EntryId.{EntryId}
use Rattle.dp_trie.specs.Asked.{Wanted, is_asked, hit_of}
use Rattle.dp_trie.specs.Entered.{pattern_classes, shared_count, nodes_below, nodes_after, nodes_added, taken_count, entered_after, entered_count, entered_first, one_more, tree_entered, StandOnce}
use Rattle.dp_trie.specs.Known.{Known, KeptContext, kept_at}
use Rattle.dp_trie.specs.Names.{own_plain, known_plain}
use Rattle.dp_trie.specs.steps.Ranked.{known_now, hold_of, AreNamed, IsGroup, IsPlain, IsPattern}
use Rattle.dp_trie.specs.Tree.{known_held, own, path_after, path_end, known_from, alive, pattern_nodes}
use Rattle.dp_trie.specs.declared.node.HeldEntry.{HeldEntry}
use Rattle.dp_trie.specs.declared.node.Leaf as leaf
use Rattle.dp_trie.specs.declared.node.Node.{Node}
use Rattle.dp_trie.specs.declared.node.Step.TheVariants.{Leaf}
use Rattle.dp_trie.specs.declared.plain.PlainName.{PlainName}
use Rattle.dp_trie.specs.declared.ranked.Ranked.{Ranked}
use Rattle.dp_trie.proofs.BuildLemmas.{IsBuilt, all-at, take-range}
use Rattle.dp_trie.proofs.TreeLemmas.{take-all}

none_before : (n : ℕ) → n ≡ 0 + n
none_before n = omega arith

-- ---- the classes that two patterns share

pub shared-right : (left right : List (List ℕ)) → shared_count left right ≤ length right
shared-right [] right = omega arith
shared-right (a ∷ left) [] = omega arith
shared-right (a ∷ left) (b ∷ right) = by (is_eq (class_cmp a b)) (shared-right left right)
  where
    by : (same : Bool) → shared_count left right ≤ length right → cond same (suc (shared_count left right)) 0 ≤ suc (length right)
    by true few = omega (arith, few)
    by false few = omega arith

same_class : (a b : List ℕ) → a ≡ b → is_eq (class_cmp a b) ≡ true
same_class a b same = (is_eq-Equal (class_cmp a b)).1 (sym (class_cmp-same a b same))

other_class : (a b : List ℕ) → a ≢ b → is_eq (class_cmp a b) ≡ false
other_class a b other = by (is_eq (class_cmp a b)) refl
  where
    by : (t : Bool) → is_eq (class_cmp a b) ≡ t → is_eq (class_cmp a b) ≡ false
    by true e = absurd (other (classes_equal a b ((is_eq-Equal (class_cmp a b)).0 e)))
    by false e = e

-- patterns that are alike up to a place share the classes up to there, and on from there
pub shared-parts : (k : ℕ) (left right : List (List ℕ)) → k ≤ length left → take k left ≡ take k right → shared_count left right ≡ k + shared_count (drop k left) (drop k right)
shared-parts zero left right few same = none_before (shared_count left right)
shared-parts (suc k) [] right few same = absurd (omega (arith, few))
shared-parts (suc k) (a ∷ left) [] few same = absurd cc
shared-parts (suc k) (a ∷ left) (b ∷ right) few same =
    let first : a ≡ b = cc in
    let rest : take k left ≡ take k right = cc in
    ap (λ t. cond t (suc (shared_count left right)) 0) (same_class a b first)
    ∙ more k (shared_count left right) (shared_count (drop k left) (drop k right)) (shared-parts k left right (omega (arith, few)) rest)
  where
    more : (k m n : ℕ) → m ≡ k + n → suc m ≡ suc k + n
    more k m n e = omega (arith, e)

none_shared : (left right : List (List ℕ)) (k : ℕ) (a b : List ℕ) → slice_get left k ≡ Some a → slice_get right k ≡ Some b → a ≢ b → shared_count (drop k left) (drop k right) ≡ 0
none_shared [] right k a b here there other = absurd cc
none_shared (x ∷ left) [] k a b here there other = absurd cc
none_shared (x ∷ left) (y ∷ right) zero a b here there other =
    let one : x ≡ a = cc in
    let two : y ≡ b = cc in
    ap (λ t. cond t (suc (shared_count left right)) 0) (other_class x y (λ e. other (sym one ∙ (e ∙ two))))
none_shared (x ∷ left) (y ∷ right) (suc k) a b here there other = none_shared left right k a b here there other

ended_left : (left right : List (List ℕ)) (k : ℕ) → length left ≤ k → shared_count (drop k left) right ≡ 0
ended_left [] right zero past = refl
ended_left [] right (suc k) past = refl
ended_left (x ∷ left) right zero past = absurd (omega (arith, past))
ended_left (x ∷ left) right (suc k) past = ended_left left right k (omega (arith, past))

nothing_right : (left : List (List ℕ)) → shared_count left [] ≡ 0
nothing_right [] = refl
nothing_right (x ∷ left) = refl

ended_right : (left right : List (List ℕ)) (k : ℕ) → length right ≤ k → shared_count left (drop k right) ≡ 0
ended_right left [] zero past = nothing_right left
ended_right left [] (suc k) past = nothing_right left
ended_right left (y ∷ right) zero past = absurd (omega (arith, past))
ended_right left (y ∷ right) (suc k) past = ended_right left right k (omega (arith, past))

plus_none : (k n s : ℕ) → s ≡ k + n → n ≡ 0 → k ≡ s
plus_none k n s e none = omega (arith, e, none)

-- up to the first place at which two patterns differ
pub shared-differ : (left right : List (List ℕ)) (k : ℕ) (a b : List ℕ) → k ≤ length left → take k left ≡ take k right → slice_get left k ≡ Some a → slice_get right k ≡ Some b → a ≢ b → k ≡ shared_count left right
shared-differ left right k a b few same here there other =
    plus_none k _ _ (shared-parts k left right few same) (none_shared left right k a b here there other)

-- or up to the end of one of them
pub shared-end : (left right : List (List ℕ)) (k : ℕ) → k ≤ length left → take k left ≡ take k right → (k < length left → k < length right → ⊥) → k ≡ shared_count left right
shared-end left right k few same ended = plus_none k _ _ (shared-parts k left right few same) none
  where
    none : shared_count (drop k left) (drop k right) ≡ 0
    none = elim (slice_get_cases left k).1 [
      | inl here ↦ elim (slice_get_cases right k).1 [
        | inl there ↦ absurd (ended (slice_get_within left k here.0 here.2) (slice_get_within right k there.0 there.2))
        | inr past ↦ ended_right (drop k left) right k past.0
      ]
      | inr past ↦ ended_left left (drop k right) k past.0
    ]

pub shared-same : (left right : List (List ℕ)) → take (shared_count left right) left ≡ take (shared_count left right) right
shared-same [] right = refl
shared-same (a ∷ left) [] = refl
shared-same (a ∷ left) (b ∷ right) = by (shared-same left right) (is_eq (class_cmp a b)) refl
  where
    by : take (shared_count left right) left ≡ take (shared_count left right) right → (t : Bool) → is_eq (class_cmp a b) ≡ t → take (cond t (suc (shared_count left right)) 0) (a ∷ left) ≡ take (cond t (suc (shared_count left right)) 0) (b ∷ right)
    by rest true e = let first = classes_equal a b ((is_eq-Equal (class_cmp a b)).0 e) in cc
    by rest false e = refl

-- ---- names

-- the name above the rest of some entries, if this one is above them
abbrev pub last_name : Meaning → List Known → Meaning
last_name above [] = above
last_name above (known ∷ entries) = last_name known.name entries

last_name-append : (xs ys : List Known) (above : Meaning) → last_name above (xs ++ ys) ≡ last_name (last_name above xs) ys
last_name-append [] ys above = refl
last_name-append (x ∷ xs) ys above = last_name-append xs ys x.name

last_name-named : (entries : List Known) (above name : Meaning) → AreNamed name entries → 0 < length entries → last_name above entries ≡ name
last_name-named [] above name same some = absurd (omega (arith, some))
last_name-named (known ∷ []) above name same some = same.0
last_name-named (known ∷ one ∷ entries) above name same some = last_name-named (one ∷ entries) known.name name same.1 (omega arith)

added-none : (name : Meaning) → nodes_added name name ≡ []
added-none (Plain text) = refl
added-none (Pattern classes tail) =
    ap (λ t. cond t [] (nodes_after (shared_count classes classes) classes)) ((same_names (Pattern classes tail) (Pattern classes tail)).1 refl)

added-other : (above : Meaning) (classes : List (List ℕ)) (tail : Tail) → above ≢ Pattern classes tail → nodes_added above (Pattern classes tail) ≡ nodes_after (shared_count (pattern_classes above) classes) classes
added-other above classes tail other = by (is_eq (name_cmp above (Pattern classes tail))) refl
  where
    by : (t : Bool) → is_eq (name_cmp above (Pattern classes tail)) ≡ t → cond t [] (nodes_after (shared_count (pattern_classes above) classes) classes) ≡ nodes_after (shared_count (pattern_classes above) classes) classes
    by true e = absurd (other ((same_names above (Pattern classes tail)).0 e))
    by false e = refl

-- below any plain name a name adds the same number
added-plain : (x y : List ℕ) (name : Meaning) → nodes_added (Plain x) name ≡ nodes_added (Plain y) name
unfolding name_cmp
added-plain x y (Plain text) = refl
added-plain x y (Pattern classes tail) = refl

module _ (held : List HeldEntry) (more : Bool) (wanted : Wanted) (digits : List ℕ) where
  abbrev test : Known → Bool
  test = is_asked more wanted digits

  abbrev count_from : List (List ℕ) → List Node → ℕ
  count_from path nodes = tree_entered held more wanted digits path nodes

  abbrev entered_below : Meaning → List Known → ℕ
  entered_below above entries = entered_after more wanted digits above entries

  -- ---- nodes one after another

  count-append : (xs ys : List Node) (path : List (List ℕ)) → count_from path (xs ++ ys) ≡ count_from path xs + cond (is_some (find test (known_from held path xs))) 0 (count_from (path_end path xs) ys)
  count-append [] ys path = none_before (count_from path ys)
  count-append (node ∷ xs) ys path =
      by (alive more (path_after path node) digits) (find test (own held (take node.depth path) node.step)) (find test (known_from held (path_after path node) xs))
      (count_from (path_after path node) (xs ++ ys)) (count_from (path_after path node) xs) (count_from (path_end (path_after path node) xs) ys) (count-append xs ys (path_after path node))
      ∙ ap (λ (o : Option Known). one_more (alive more (path_after path node) digits) (cond (is_some (find test (own held (take node.depth path) node.step))) 0 (count_from (path_after path node) xs)) + cond (is_some o) 0 (count_from (path_end (path_after path node) xs) ys))
      (sym (find-append test (own held (take node.depth path) node.step) (known_from held (path_after path node) xs)))
    where
      by : (a : Bool) (o rest : Option Known) (whole first last : ℕ) → whole ≡ first + cond (is_some rest) 0 last → one_more a (cond (is_some o) 0 whole) ≡ one_more a (cond (is_some o) 0 first) + cond (is_some (option_or o rest)) 0 last
      by true None rest whole first last e = step whole first (cond (is_some rest) 0 last) e
        where
          step : (w f l : ℕ) → w ≡ f + l → suc w ≡ suc f + l
          step w f l e = omega (arith, e)
      by true (Some k) rest whole first last e = omega arith
      by false None rest whole first last e = e
      by false (Some k) rest whole first last e = omega arith

  taken_more : (down : List (List ℕ)) (downs : List (List (List ℕ))) → taken_count more digits (down ∷ downs) ≡ one_more (alive more down digits) (taken_count more digits downs)
  taken_more down downs = sum_by-append (λ (d : List (List ℕ)). cond (alive more d digits) 1 0) (down ∷ []) downs ∙ by (alive more down digits) (taken_count more digits downs)
    where
      by : (a : Bool) (n : ℕ) → 0 + cond a 1 0 + n ≡ one_more a n
      by true n = omega arith
      by false n = omega arith

  -- the nodes of a pattern, from a depth on
  pattern-count : (classes : List (List ℕ)) (depth : ℕ) (path front : List (List ℕ)) (l : leaf.Leaf) → length front ≡ depth → take depth path ≡ front → count_from path (pattern_nodes depth classes l) ≡ taken_count more digits (nodes_below front classes)
  pattern-count [] depth path front l size same =
      ap (λ p. one_more (alive more p digits) (cond (is_some (find test (own held p (Leaf l)))) 0 0)) same
      ∙ (ap (one_more (alive more front digits)) (nothing (is_some (find test (own held front (Leaf l))))) ∙ sym (taken_more front []))
    where
      nothing : (b : Bool) → cond {A = ℕ} b 0 0 ≡ zero
      nothing true = refl
      nothing false = refl
  pattern-count (class ∷ classes) depth path front l size same =
      let long = length-append front (class ∷ []) in
      let longer : length (front ++ class ∷ []) ≡ suc depth = omega (arith, long, size) in
      ap (λ p. one_more (alive more (p ++ class ∷ []) digits) (count_from (p ++ class ∷ []) (pattern_nodes (suc depth) classes l))) same
      ∙ (ap (one_more (alive more (front ++ class ∷ []) digits))
      (pattern-count classes (suc depth) (front ++ class ∷ []) (front ++ class ∷ []) l longer (take-all (suc depth) (front ++ class ∷ []) (omega (arith, longer))))
      ∙ sym (taken_more (front ++ class ∷ []) (nodes_below (front ++ class ∷ []) classes)))

  -- ---- entries one after another

  below-append : (xs ys : List Known) (above : Meaning) → entered_below above (xs ++ ys) ≡ entered_below above xs + cond (is_some (find test xs)) 0 (entered_below (last_name above xs) ys)
  below-append [] ys above = none_before (entered_below above ys)
  below-append (x ∷ xs) ys above =
      by (test x) (taken_count more digits (nodes_added above x.name)) (entered_below x.name (xs ++ ys)) (entered_below x.name xs) (entered_below (last_name x.name xs) ys) (find test xs) (below-append xs ys x.name)
    where
      by : (b : Bool) (taken whole first last : ℕ) (rest : Option Known) → whole ≡ first + cond (is_some rest) 0 last → taken + cond b 0 whole ≡ (taken + cond b 0 first) + cond (is_some (cond b (Some x) rest)) 0 last
      by true taken whole first last rest e = omega arith
      by false taken whole first last rest e = step taken whole first (cond (is_some rest) 0 last) e
        where
          step : (t w f l : ℕ) → w ≡ f + l → t + w ≡ t + f + l
          step t w f l e = omega (arith, e)

  -- entries with the name above them add nothing
  below-same : (entries : List Known) (above name : Meaning) → above ≡ name → AreNamed name entries → entered_below above entries ≡ 0
  below-same [] above name same named = refl
  below-same (known ∷ entries) above name same named =
      ap (λ nodes. taken_count more digits nodes + cond (test known) 0 (entered_below known.name entries)) (ap (nodes_added above) (named.0 ∙ sym same) ∙ added-none above)
      ∙ by (test known) (entered_below known.name entries) (below-same entries known.name name named.0 named.1)
    where
      by : (b : Bool) (n : ℕ) → n ≡ 0 → 0 + cond b 0 n ≡ 0
      by true n e = omega arith
      by false n e = omega (arith, e)

  -- entries with another name add its nodes once
  below-group : (entries : List Known) (above name : Meaning) → AreNamed name entries → 0 < length entries → entered_below above entries ≡ taken_count more digits (nodes_added above name)
  below-group [] above name named some = absurd (omega (arith, some))
  below-group (known ∷ entries) above name named some =
      ap (λ m. taken_count more digits (nodes_added above m) + cond (test known) 0 (entered_below known.name entries)) named.0
      ∙ by (test known) (taken_count more digits (nodes_added above name)) (entered_below known.name entries) (below-same entries known.name name named.0 named.1)
    where
      by : (b : Bool) (taken n : ℕ) → n ≡ 0 → taken + cond b 0 n ≡ taken
      by true taken n e = omega arith
      by false taken n e = omega (arith, e)

  -- ---- plain names, which have no nodes

  below-plain : (entries : List Known) (x y : List ℕ) → entered_below (Plain x) entries ≡ entered_below (Plain y) entries
  below-plain [] x y = refl
  below-plain (known ∷ entries) x y = ap (λ nodes. taken_count more digits nodes + cond (test known) 0 (entered_below known.name entries)) (added-plain x y known.name)

  past-plain : (plain rest : List Known) (x : List ℕ) → AllByRecursion (λ (k : Known). IsPlain k.name) plain → entered_below (Plain x) (plain ++ rest) ≡ cond (is_some (find test plain)) 0 (entered_below (Plain x) rest)
  past-plain [] rest x each = refl
  past-plain (known ∷ plain) rest x each = by (past-plain plain rest x each.1) known.name refl each.0
    where
      step : (b : Bool) (o : Option Known) (n m : ℕ) → n ≡ cond (is_some o) 0 m → 0 + cond b 0 n ≡ cond (is_some (cond b (Some known) o)) 0 m
      step true o n m e = omega arith
      step false o n m e = sym (none_before n) ∙ e

      by : entered_below (Plain x) (plain ++ rest) ≡ cond (is_some (find test plain)) 0 (entered_below (Plain x) rest) → (name : Meaning) → known.name ≡ name → IsPlain name → entered_below (Plain x) (known ∷ plain ++ rest) ≡ cond (is_some (find test (known ∷ plain))) 0 (entered_below (Plain x) rest)
      by past (Plain text) e is =
          ap (λ m. taken_count more digits (nodes_added (Plain x) m) + cond (test known) 0 (entered_below m (plain ++ rest))) e
          ∙ step (test known) (find test plain) (entered_below (Plain text) (plain ++ rest)) (entered_below (Plain x) rest)
          (below-plain (plain ++ rest) text x ∙ past)
      by past (Pattern classes tail) e is = absurd is

all-append : (P : Known → Type 0) (xs ys : List Known) → AllByRecursion P xs → AllByRecursion P ys → AllByRecursion P (xs ++ ys)
all-append P [] ys first rest = rest
all-append P (x ∷ xs) ys first rest = (first.0, all-append P xs ys first.1 rest)

pub are-plain : (held : List HeldEntry) (names : List PlainName) → AllByRecursion (λ (k : Known). IsPlain k.name) (known_plain held names)
are-plain held [] = tt
are-plain held (plain ∷ names) = all-append (λ (k : Known). IsPlain k.name) (own_plain held plain) (known_plain held names) (each (slice_range held plain.from plain.until)) (are-plain held names)
  where
    each : (own : List HeldEntry) → AllByRecursion (λ (k : Known). IsPlain k.name) (map (known_held (Plain plain.name)) own)
    each [] = tt
    each (one ∷ own) = (tt, each own)

-- ---- the nodes of the first entries

pub record IsCounted (ranked : List Ranked) (nodes : List Node) (above : List (List ℕ)) (from : ℕ) : Type 0 where
  pub shares : pattern_classes (last_name (Plain []) (take from (map known_now ranked))) ≡ above
  pub apart : (one : Ranked) → slice_get ranked from ≡ Some one → (known_now one).name ≢ last_name (Plain []) (take from (map known_now ranked))
  pub counted : (more : Bool) (wanted : Wanted) (digits : List ℕ) → tree_entered (map hold_of (map known_now ranked)) more wanted digits [] nodes ≡ entered_count more wanted digits (take from (map known_now ranked))

pub counted-start : (ranked : List Ranked) → AllByRecursion (λ (r : Ranked). IsPattern (known_now r).name) ranked → IsCounted ranked [] [] 0
counted-start ranked each = record {
  shares = refl;
  apart = λ one here same. subst IsPattern same (all-at (λ (r : Ranked). IsPattern (known_now r).name) ranked 0 one each here);
  counted = λ more wanted digits. refl;
}

pub counted-push : (ranked : List Ranked) (nodes new : List Node) (above classes : List (List ℕ)) (tail : Tail) (from until : ℕ) (one : Ranked)
    → IsBuilt ranked nodes above from → IsCounted ranked nodes above from → IsGroup (map known_now ranked) from until (Pattern classes tail)
    → slice_get ranked from ≡ Some one → (known_now one).name ≡ Pattern classes tail
    → ((next : Ranked) → slice_get ranked until ≡ Some next → (known_now next).name ≢ Pattern classes tail)
    → new ≡ nodes ++ pattern_nodes (shared_count above classes) (drop (shared_count above classes) classes) (record { tail = tail; from = from; until = until })
    → IsCounted ranked new classes until
counted-push ranked nodes new above classes tail from until one built before is_group here name other added = record {
  shares = ap pattern_classes last;
  apart = λ next there same. other next there (same ∙ last);
  counted = λ more wanted digits.
      ap (tree_entered held more wanted digits []) added
      ∙ (count-append held more wanted digits nodes (pattern_nodes n (drop n classes) l) []
      ∙ (ap (λ m. m + cond (is_some (find (is_asked more wanted digits) (known_from held [] nodes))) 0 (tree_entered held more wanted digits (path_end [] nodes) (pattern_nodes n (drop n classes) l))) (before.counted more wanted digits)
      ∙ (ap (λ ks. entered_count more wanted digits (take from known) + cond (is_some (find (is_asked more wanted digits) ks)) 0 (tree_entered held more wanted digits (path_end [] nodes) (pattern_nodes n (drop n classes) l))) built.known
      ∙ (ap (λ m. entered_count more wanted digits (take from known) + cond (is_some (find (is_asked more wanted digits) (take from known))) 0 m) (same_count more wanted digits)
      ∙ (sym (below-append held more wanted digits (take from known) (slice_range known from until) (Plain []))
      ∙ ap (entered_count more wanted digits) (sym parts))))));
}
  where
    known : List Known
    known = map known_now ranked

    held : List HeldEntry
    held = map hold_of known

    l : leaf.Leaf
    l = record { tail = tail; from = from; until = until }

    n : ℕ
    n = shared_count above classes

    last_before : Meaning
    last_before = last_name (Plain []) (take from known)

    few : from ≤ until
    few = let later = is_group.later in omega (arith, later)

    long : 0 < length (slice_range known from until)
    long =
        let later = is_group.later in
        let inside = is_group.within in
        let size = length-take (until - from) (drop from known) in
        let rest = length-drop from known in
        omega (arith, later, inside, size, rest)

    parts : take until known ≡ take from known ++ slice_range known from until
    parts = take-range known from until few

    last : last_name (Plain []) (take until known) ≡ Pattern classes tail
    last =
        ap (last_name (Plain [])) parts
        ∙ (last_name-append (take from known) (slice_range known from until) (Plain [])
        ∙ last_name-named (slice_range known from until) last_before (Pattern classes tail) is_group.same long)

    apart : last_before ≢ Pattern classes tail
    apart same = before.apart one here (name ∙ sym same)

    front : length (take n classes) ≡ n
    front = let size = length-take n classes in let within = shared-right above classes in omega (arith, size, within)

    same_count : (more : Bool) (wanted : Wanted) (digits : List ℕ) → tree_entered held more wanted digits (path_end [] nodes) (pattern_nodes n (drop n classes) l) ≡ entered_after more wanted digits last_before (slice_range known from until)
    same_count more wanted digits =
        pattern-count held more wanted digits (drop n classes) n (path_end [] nodes) (take n classes) l front (ap (take n) built.path ∙ shared-same above classes)
        ∙ sym (below-group held more wanted digits (slice_range known from until) last_before (Pattern classes tail) is_group.same long
        ∙ ap (taken_count more digits) (added-other last_before classes tail apart ∙ ap (λ p. nodes_after (shared_count p classes) classes) before.shares))

-- the tree has the nodes of the entries
pub stand-once : (ranked : List Ranked) (nodes : List Node) (above : List (List ℕ)) (from : ℕ) → IsBuilt ranked nodes above from → IsCounted ranked nodes above from → StandOnce (map hold_of (map known_now ranked)) nodes
stand-once ranked nodes above from built counted = record { each = λ more wanted digits. counted.counted more wanted digits ∙ ap (entered_count more wanted digits) (sym built.known) }

-- ---- the plain names of a context and its tree

module _ (more : Bool) (wanted : Wanted) (digits : List ℕ) (plain held : List HeldEntry) (names : List PlainName) (nodes : List Node) where
  abbrev first : List Known
  first = known_plain plain names

  abbrev rest : List Known
  rest = known_from held [] nodes

  parts : entered_count more wanted digits (first ++ rest) ≡ cond (is_some (find (is_asked more wanted digits) first)) 0 (entered_count more wanted digits rest)
  parts = past-plain held more wanted digits first rest [] (are-plain plain names)

  -- after a plain name that answers nothing is entered
  pub plain-answers : (hit : EntryId) → Some hit ≡ option_map hit_of (find (is_asked more wanted digits) first) → 0 ≡ entered_count more wanted digits (first ++ rest)
  plain-answers hit e = by (find (is_asked more wanted digits) first) e ∙ sym parts
    where
      by : (o : Option Known) → Some hit ≡ option_map hit_of o → 0 ≡ cond (is_some o) 0 (entered_count more wanted digits rest)
      by None e = absurd cc
      by (Some k) e = refl

  pub tree-answers : None ≡ option_map hit_of (find (is_asked more wanted digits) first) → entered_count more wanted digits rest ≡ entered_count more wanted digits (first ++ rest)
  tree-answers e = by (find (is_asked more wanted digits) first) e ∙ sym parts
    where
      by : (o : Option Known) → None ≡ option_map hit_of o → entered_count more wanted digits rest ≡ cond (is_some o) 0 (entered_count more wanted digits rest)
      by None e = refl
      by (Some k) e = absurd cc

-- without nodes none is entered
pub none-entered_count : (more : Bool) (wanted : Wanted) (digits : List ℕ) (held : List HeldEntry) (nodes : List Node) → length nodes ≡ 0 → 0 ≡ entered_count more wanted digits (known_from held [] nodes)
none-entered_count more wanted digits held [] none = refl
none-entered_count more wanted digits held (node ∷ nodes) none = absurd (omega (arith, none))

-- ---- contexts one after another

min-again : (most a b : ℕ) → min (min a most + b) most ≡ min (a + b) most
min-again most a b = omega arith

module _ (kept : List KeptContext) (more : Bool) (wanted : Wanted) (digits : List ℕ) (number : ℕ) (order : List ℕ) (count found most all : ℕ) (hit : Option EntryId)
    (same : found ≡ entered_count more wanted digits (kept_at kept number)) (is_hit : hit ≡ option_map hit_of (find (is_asked more wanted digits) (kept_at kept number)))
    (sum : min (count + entered_first kept more wanted digits (number ∷ order)) most ≡ all) where
  is_found : is_some hit ≡ is_some (find (is_asked more wanted digits) (kept_at kept number))
  is_found = ap is_some is_hit ∙ by (find (is_asked more wanted digits) (kept_at kept number))
    where
      by : (o : Option Known) → is_some (option_map hit_of o) ≡ is_some o
      by None = refl
      by (Some k) = refl

  whole : (b : Bool) → is_some hit ≡ b → entered_first kept more wanted digits (number ∷ order) ≡ found + cond b 0 (entered_first kept more wanted digits order)
  whole b e =
      ap (λ n. n + cond (is_some (find (is_asked more wanted digits) (kept_at kept number))) 0 (entered_first kept more wanted digits order)) (sym same)
      ∙ ap (λ t. found + cond t 0 (entered_first kept more wanted digits order)) (sym is_found ∙ e)

  -- a context that does not answer
  pub first-more : is_some hit ≡ false → min (min (count + found) most + entered_first kept more wanted digits order) most ≡ all
  first-more none =
      min-again most (count + found) (entered_first kept more wanted digits order)
      ∙ (ap (λ n. min n most) (together count found (entered_first kept more wanted digits order)) ∙ (ap (λ n. min (count + n) most) (sym (whole false none)) ∙ sum))
    where
      together : (a b c : ℕ) → a + b + c ≡ a + (b + c)
      together a b c = omega arith

  -- the context that answers
  pub first-last : is_some hit ≡ true → min (count + found) most ≡ all
  first-last some = ap (λ n. min (count + n) most) (with_none found ∙ sym (whole true some)) ∙ sum
    where
      with_none : (n : ℕ) → n ≡ n + 0
      with_none n = omega arith

-- if no context is left, all are counted
pub first-end : (kept : List KeptContext) (more : Bool) (wanted : Wanted) (digits order : List ℕ) (place count most all : ℕ) → length order ≤ place → count ≤ most → min (count + entered_first kept more wanted digits (drop place order)) most ≡ all → count ≡ all
first-end kept more wanted digits order place count most all past few sum =
    plain count most few ∙ (ap (λ numbers. min (count + entered_first kept more wanted digits numbers) most) (sym (none order place past)) ∙ sum)
  where
    plain : (count most : ℕ) → count ≤ most → count ≡ min (count + 0) most
    plain count most few = omega (arith, few)

    none : (order : List ℕ) (place : ℕ) → length order ≤ place → drop place order ≡ []
    none [] zero past = refl
    none [] (suc place) past = refl
    none (number ∷ order) zero past = absurd (omega (arith, past))
    none (number ∷ order) (suc place) past = none order place (omega (arith, past))
