-- What is found among plain names, which are in order.
use Rattle.std.proofs.Common.{◌≡◌, ℕ, zero, suc, ◌+◌, ◌-◌, ◌<◌, ◌≤◌, Bool, true, false, cond, ◌==◌, ◌&&◌, ◌||◌, List, [], ◌∷◌, ◌++◌, length, map, take, drop, Option, Some, None, MatchOption, inl, inr, arith, refl, sym, ap, subst, ◌∙◌, Ordering, Less, Equal, Greater, nat_cmp, is_eq}
use Rattle.std.specs.Prelude.{slice_get, slice_range, is_some, find, nat_eq, nat_lt}
use Rattle.std.specs.List.{AllByRecursion, starts_with}
use Rattle.std.specs.List.Sorted.{IsPartitionedBy}
use Rattle.std.specs.Option.{option_map, option_or}
use Rattle.std.specs.Ordering.{is_lt, ordering_then}
use Rattle.std.specs.Cmp.Lexicographic.{pointwise, slice_cmp}
use Rattle.std.proofs.lemmas.Bool.{eq-eqb, ne_eqb, eqb-false, cases_order}
use Rattle.std.proofs.lemmas.Cmp.{ranked}
use Rattle.std.proofs.lemmas.List.{length-take, length-drop, take-append-drop}
use Rattle.std.proofs.lemmas.List.Folds.{find-append}
use Rattle.std.proofs.lemmas.Option.{slice_get_cases, same_Some}
use Rattle.dp_pattern.specs.Name.{Meaning, Plain, Pattern, is_one_of}
use Rattle.dp_pattern.specs.Order.{name_cmp}
use Rattle.dp_pattern.specs.Walk.{Refused, walk_after, singles, classes_of}
use Rattle.dp_pattern.specs.declared.tail.Tail.TheVariants.{End}
use Rattle.dp_trie.specs.Asked.{Wanted, fits, is_wanted, is_asked, holds, hit_held, hit_of}
use Rattle.dp_trie.specs.Known.{Known, class_count}
use Rattle.dp_trie.specs.Names.{own_plain, known_plain, side_of, rank, rank_of, fitting, ArePlainRanges, RiseEach, NamesRise}
use Rattle.dp_trie.specs.steps.Ranked.{known_cmp, AreInOrder}
use Rattle.dp_trie.specs.Tree.{known_held, known_from}
use Rattle.dp_plan.specs.declared.entry.EntryId.{EntryId}
use Rattle.dp_trie.specs.declared.node.HeldEntry.{HeldEntry}
use Rattle.dp_trie.specs.declared.node.Node.{Node}
use Rattle.dp_trie.specs.declared.plain.PlainName.{PlainName}
use Rattle.dp_trie.specs.declared.plain.Side.{Side}
use Rattle.dp_trie.specs.declared.plain.Side.TheVariants.{Before, Same, Longer, After}
use Rattle.dp_trie.proofs.BuildLemmas.{all-at, map-get}
use Rattle.dp_trie.proofs.PointLemmas.{rising-parted, all-last}
use Rattle.dp_trie.proofs.RisingLemmas.{all-left, all-right, sorted-left, sorted-right, sorted-across, held-rise}
use Rattle.dp_trie.proofs.TreeLemmas.{find_images, drop-get, drop-end}

-- ---- the rank of a name

abbrev step_side : Ordering → Side → Side
step_side o rest = elim o [ Less ↦ Before | Equal ↦ rest | Greater ↦ After ]

-- how names compare, given how they compare from a place on
pub side-at : (name digits : List ℕ) (n b d : ℕ) (o : Ordering) → slice_get name n ≡ Some b → slice_get digits n ≡ Some d → nat_cmp b d ≡ o → side_of (drop n name) (drop n digits) ≡ step_side o (side_of (drop (n + 1) name) (drop (n + 1) digits))
side-at name digits n b d o here there order =
    ap (λ l. side_of l (drop n digits)) (drop-get name n b here)
    ∙ (ap (λ l. side_of (b ∷ drop (n + 1) name) l) (drop-get digits n d there)
    ∙ ap (λ o. step_side o (side_of (drop (n + 1) name) (drop (n + 1) digits))) order)

-- if the digits have ended
pub side-longer : (name digits : List ℕ) (n b : ℕ) → slice_get name n ≡ Some b → slice_get digits n ≡ None → side_of (drop n name) (drop n digits) ≡ Longer
side-longer name digits n b here ended =
    ap (λ l. side_of l (drop n digits)) (drop-get name n b here)
    ∙ ap (λ l. side_of (b ∷ drop (n + 1) name) l) (drop-end digits n ended)

side_short : (n : ℕ) (digits : List ℕ) → (n < length digits → side_of [] (drop n digits) ≡ Before) × (length digits ≤ n → side_of [] (drop n digits) ≡ Same)
side_short zero [] = (λ few. absurd (omega (arith, few)), λ many. refl)
side_short zero (d ∷ digits) = (λ few. refl, λ many. absurd (omega (arith, many)))
side_short (suc n) [] = (λ few. absurd (omega (arith, few)), λ many. refl)
side_short (suc n) (d ∷ digits) = (λ few. (side_short n digits).0 (omega (arith, few)), λ many. (side_short n digits).1 (omega (arith, many)))

nothing_left : (name : List ℕ) (n : ℕ) → length name ≤ n → drop n name ≡ []
nothing_left [] zero few = refl
nothing_left [] (suc n) few = refl
nothing_left (b ∷ name) zero few = absurd (omega (arith, few))
nothing_left (b ∷ name) (suc n) few = nothing_left name n (omega (arith, few))

-- if the name has ended
pub side-before : (name digits : List ℕ) (n : ℕ) → length name ≤ n → n < length digits → side_of (drop n name) (drop n digits) ≡ Before
side-before name digits n few more = ap (λ l. side_of l (drop n digits)) (nothing_left name n few) ∙ (side_short n digits).0 more

pub side-same : (name digits : List ℕ) (n : ℕ) → length name ≤ n → length digits ≤ n → side_of (drop n name) (drop n digits) ≡ Same
side-same name digits n few many = ap (λ l. side_of l (drop n digits)) (nothing_left name n few) ∙ (side_short n digits).1 many

-- the side, given the order of bytes and whether the name begins with the digits
abbrev pub side_by : Ordering → Bool → Side
side_by Less begins = Before
side_by Equal begins = Same
side_by Greater begins = cond begins Longer After

pub side-compared : (name digits : List ℕ) → side_of name digits ≡ side_by (slice_cmp nat_cmp name digits) (starts_with nat_eq name digits)
side-compared [] [] = refl
side-compared [] (d ∷ digits) = refl
side-compared (b ∷ name) [] = refl
side-compared (b ∷ name) (d ∷ digits) = by (nat_cmp b d) refl (side-compared name digits)
  where
    by : (o : Ordering) → o ≡ nat_cmp b d → side_of name digits ≡ side_by (slice_cmp nat_cmp name digits) (starts_with nat_eq name digits) → step_side o (side_of name digits) ≡ side_by (ordering_then o (slice_cmp nat_cmp name digits)) (nat_eq d b && starts_with nat_eq name digits)
    by Less e rest = refl
    by Equal e rest = let u = ranked b d Equal e in rest ∙ ap (λ t. side_by (slice_cmp nat_cmp name digits) (t && starts_with nat_eq name digits)) (sym (eq-eqb d b (sym u)))
    by Greater e rest = let u = ranked b d Greater e in ap (λ t. side_by Greater (t && starts_with nat_eq name digits)) (sym (ne_eqb d b (λ same. omega (arith, u, same))))

-- a name comes before the digits exactly if it ranks below them
pub before-compared : (name digits : List ℕ) → is_lt (slice_cmp nat_cmp name digits) ≡ nat_lt (rank (side_of name digits)) 1
before-compared name digits = by (slice_cmp nat_cmp name digits) (starts_with nat_eq name digits) ∙ ap (λ s. nat_lt (rank s) 1) (sym (side-compared name digits))
  where
    by : (o : Ordering) (b : Bool) → is_lt o ≡ nat_lt (rank (side_by o b)) 1
    by Less b = refl
    by Equal b = refl
    by Greater true = refl
    by Greater false = refl

-- a name is the digits exactly if it ranks where they do
pub same-compared : (name digits : List ℕ) → pointwise nat_eq name digits ≡ (rank (side_of name digits) == 1)
same-compared [] [] = refl
same-compared [] (d ∷ digits) = refl
same-compared (b ∷ name) [] = refl
same-compared (b ∷ name) (d ∷ digits) = by (nat_cmp b d) refl (same-compared name digits)
  where
    by : (o : Ordering) → o ≡ nat_cmp b d → pointwise nat_eq name digits ≡ (rank (side_of name digits) == 1) → (nat_eq b d && pointwise nat_eq name digits) ≡ (rank (step_side o (side_of name digits)) == 1)
    by Less e rest = let u = ranked b d Less e in ap (λ t. t && pointwise nat_eq name digits) (ne_eqb b d (λ same. omega (arith, u, same)))
    by Equal e rest = let u = ranked b d Equal e in ap (λ t. t && pointwise nat_eq name digits) (eq-eqb b d u) ∙ rest
    by Greater e rest = let u = ranked b d Greater e in ap (λ t. t && pointwise nat_eq name digits) (ne_eqb b d (λ same. omega (arith, u, same)))

pub rank-most : (s : Side) → rank s ≤ 3
rank-most Before = omega arith
rank-most Same = omega arith
rank-most Longer = omega arith
rank-most After = omega arith

-- a name that is not after another does not rank above it
pub sides-rise : (a b digits : List ℕ) → (slice_cmp nat_cmp a b ≡ Greater → ⊥) → rank (side_of a digits) ≤ rank (side_of b digits)
sides-rise [] [] digits low = omega arith
sides-rise [] (y ∷ b) [] low = omega arith
sides-rise [] (y ∷ b) (d ∷ digits) low = omega arith
sides-rise (x ∷ a) [] digits low = absurd (low refl)
sides-rise (x ∷ a) (y ∷ b) [] low = omega arith
sides-rise (x ∷ a) (y ∷ b) (d ∷ digits) low = by (nat_cmp x y) (nat_cmp x d) (nat_cmp y d) refl refl refl low (sides-rise a b digits)
  where
    by : (o p q : Ordering) → o ≡ nat_cmp x y → p ≡ nat_cmp x d → q ≡ nat_cmp y d → (ordering_then o (slice_cmp nat_cmp a b) ≡ Greater → ⊥) → ((slice_cmp nat_cmp a b ≡ Greater → ⊥) → rank (side_of a digits) ≤ rank (side_of b digits)) → rank (step_side p (side_of a digits)) ≤ rank (step_side q (side_of b digits))
    by o Less q e f g low rest = omega arith
    by o Equal Greater e f g low rest = rank-most (side_of a digits)
    by o Greater Greater e f g low rest = omega arith
    by Less Equal Less e f g low rest = let u = ranked x y Less e in let v = ranked x d Equal f in let w = ranked y d Less g in absurd (omega (arith, u, v, w))
    by Less Equal Equal e f g low rest = let u = ranked x y Less e in let v = ranked x d Equal f in let w = ranked y d Equal g in absurd (omega (arith, u, v, w))
    by Less Greater Less e f g low rest = let u = ranked x y Less e in let v = ranked x d Greater f in let w = ranked y d Less g in absurd (omega (arith, u, v, w))
    by Less Greater Equal e f g low rest = let u = ranked x y Less e in let v = ranked x d Greater f in let w = ranked y d Equal g in absurd (omega (arith, u, v, w))
    by Equal Equal Less e f g low rest = let u = ranked x y Equal e in let v = ranked x d Equal f in let w = ranked y d Less g in absurd (omega (arith, u, v, w))
    by Equal Equal Equal e f g low rest = rest low
    by Equal Greater Less e f g low rest = let u = ranked x y Equal e in let v = ranked x d Greater f in let w = ranked y d Less g in absurd (omega (arith, u, v, w))
    by Equal Greater Equal e f g low rest = let u = ranked x y Equal e in let v = ranked x d Greater f in let w = ranked y d Equal g in absurd (omega (arith, u, v, w))
    by Greater p q e f g low rest = absurd (low refl)

one_of : (b d : ℕ) (o : Ordering) → o ≡ nat_cmp b d → is_one_of (b ∷ []) d ≡ is_eq o
one_of b d Less e = let u = ranked b d Less e in ap (λ t. t || false) (ne_eqb d b (λ same. omega (arith, u, same)))
one_of b d Equal e = let u = ranked b d Equal e in ap (λ t. t || false) (eq-eqb d b (sym u))
one_of b d Greater e = let u = ranked b d Greater e in ap (λ t. t || false) (ne_eqb d b (λ same. omega (arith, u, same)))

-- a name fits exactly if it ranks on the requested side
pub fits-side : (more : Bool) (name digits : List ℕ) → fits more End (walk_after (singles name) digits) ≡ (rank (side_of name digits) == rank (fitting more))
fits-side false [] [] = refl
fits-side true [] [] = refl
fits-side false [] (d ∷ digits) = refl
fits-side true [] (d ∷ digits) = refl
fits-side false (b ∷ name) [] = refl
fits-side true (b ∷ name) [] = refl
fits-side more (b ∷ name) (d ∷ digits) =
    ap (λ t. fits more End (cond t (walk_after (singles name) digits) Refused)) (one_of b d (nat_cmp b d) refl)
    ∙ by more (nat_cmp b d) (fits-side more name digits)
  where
    by : (more : Bool) (o : Ordering) → fits more End (walk_after (singles name) digits) ≡ (rank (side_of name digits) == rank (fitting more)) → fits more End (cond (is_eq o) (walk_after (singles name) digits) Refused) ≡ (rank (step_side o (side_of name digits)) == rank (fitting more))
    by more Equal rest = rest
    by false Less rest = refl
    by true Less rest = refl
    by false Greater rest = refl
    by true Greater rest = refl

-- ---- names in their order

names-at : (names : List PlainName) (digits : List ℕ) → NamesRise names → (i j : ℕ) (p q : PlainName) → i < j → slice_get names i ≡ Some p → slice_get names j ≡ Some q → rank_of digits p ≤ rank_of digits q
names-at [] digits rise i j p q before at_i at_j = absurd cc
names-at (n ∷ names) digits rise zero zero p q before at_i at_j = absurd (omega (arith, before))
names-at (n ∷ names) digits rise zero (suc j) p q before at_i at_j =
    let same : n ≡ p = same_Some n p at_i in
    sides-rise p.name q.name digits (subst (λ (k : PlainName). slice_cmp nat_cmp k.name q.name ≡ Greater → ⊥) same (all-at (λ (later : PlainName). slice_cmp nat_cmp n.name later.name ≡ Greater → ⊥) names j q rise.0 at_j))
names-at (n ∷ names) digits rise (suc i) zero p q before at_i at_j = absurd (omega (arith, before))
names-at (n ∷ names) digits rise (suc i) (suc j) p q before at_i at_j = names-at names digits rise.1 i j p q (omega (arith, before)) at_i at_j

-- the names below a rank come first
pub ranks-parted : (names : List PlainName) (digits : List ℕ) (limit : ℕ) → NamesRise names → IsPartitionedBy (λ (p : PlainName). nat_lt (rank_of digits p) limit) names
ranks-parted names digits limit rise = rising-parted (rank_of digits) names limit (names-at names digits rise)

-- a list of one name
pub only-name : (names : List PlainName) (plain : PlainName) → length names ≤ 1 → slice_get names 0 ≡ Some plain → names ≡ plain ∷ []
only-name [] plain few here = absurd cc
only-name (n ∷ []) plain few here = ap (λ (k : PlainName). k ∷ []) (same_Some n plain here)
only-name (n ∷ m ∷ names) plain few here = absurd (omega (arith, few))

pub rise-drop : (names : List PlainName) (n : ℕ) → NamesRise names → NamesRise (drop n names)
rise-drop [] zero rise = rise
rise-drop (p ∷ names) zero rise = rise
rise-drop [] (suc n) rise = rise
rise-drop (p ∷ names) (suc n) rise = rise-drop names n rise.1

pub all-dropped : (P : PlainName → Type 0) (names : List PlainName) (n : ℕ) → AllByRecursion P names → AllByRecursion P (drop n names)
all-dropped P [] zero each = each
all-dropped P (p ∷ names) zero each = each
all-dropped P [] (suc n) each = tt
all-dropped P (p ∷ names) (suc n) each = all-dropped P names n each.1

all-weaker : (P Q : PlainName → Type 0) → ((p : PlainName) → P p → Q p) → (names : List PlainName) → AllByRecursion P names → AllByRecursion Q names
all-weaker P Q weaker [] each = tt
all-weaker P Q weaker (p ∷ names) each = (weaker p each.0, all-weaker P Q weaker names each.1)

-- ---- the order of the entries is an order of the names

not_after : (a b : List ℕ) (i j : ℕ) → ordering_then (name_cmp (Plain a) (Plain b)) (nat_cmp i j) ≡ Less → slice_cmp nat_cmp a b ≡ Greater → ⊥
unfolding name_cmp
not_after a b i j less greater = (let wrong : Greater ≡ Less = sym (ap (λ o. ordering_then o (nat_cmp i j)) greater) ∙ less in absurd cc)

module _ (held : List HeldEntry) where
  -- a name has an entry
  first_own : (plain : PlainName) → plain.from < plain.until → plain.until ≤ length held → (h : HeldEntry) × (slice_get (own_plain held plain) 0 ≡ Some (known_held (Plain plain.name) h))
  first_own plain some within = elim (slice_get_cases (slice_range held plain.from plain.until) 0).1 [
    | inl found ↦ (found.0, map-get (known_held (Plain plain.name)) (slice_range held plain.from plain.until) 0 found.0 found.2)
    | inr past ↦
        let few = past.0 in
        let size = length-take (plain.until - plain.from) (drop plain.from held) in
        let rest = length-drop plain.from held in
        absurd (omega (arith, few, size, rest, some, within))
  ]

  -- what holds of all entries holds of one for each name
  each_name : (P : Known → Type 0) (names : List PlainName) → ArePlainRanges (length held) names → AllByRecursion P (known_plain held names) → AllByRecursion (λ (p : PlainName). (h : HeldEntry) × P (known_held (Plain p.name) h)) names
  each_name P [] ranges each = tt
  each_name P (p ∷ names) ranges each =
      let first = first_own p ranges.0.0 ranges.0.1 in
      ((first.0, all-at P (own_plain held p) 0 (known_held (Plain p.name) first.0) (all-left P (own_plain held p) (known_plain held names) each) first.1), each_name P names ranges.1 (all-right P (own_plain held p) (known_plain held names) each))

  pub names-rise : (names : List PlainName) → ArePlainRanges (length held) names → AreInOrder (known_plain held names) → NamesRise names
  names-rise [] ranges sorted = tt
  names-rise (p ∷ names) ranges sorted =
      let first = first_own p ranges.0.0 ranges.0.1 in
      let across = sorted-across known_cmp (own_plain held p) (known_plain held names) 0 (known_held (Plain p.name) first.0) sorted first.1 in (
        all-weaker (λ (q : PlainName). (h : HeldEntry) × (known_cmp (known_held (Plain p.name) first.0) (known_held (Plain q.name) h) ≡ Less)) (λ (q : PlainName). slice_cmp nat_cmp p.name q.name ≡ Greater → ⊥)
            (λ q some. not_after p.name q.name first.0.priority some.0.priority some.1)
            names (each_name (λ y. known_cmp (known_held (Plain p.name) first.0) y ≡ Less) names ranges.1 across),
        names-rise names ranges.1 (sorted-right known_cmp (own_plain held p) (known_plain held names) sorted),
      )

  pub rise-each : (names : List PlainName) → AreInOrder (known_plain held names) → RiseEach held names
  rise-each [] sorted = tt
  rise-each (p ∷ names) sorted =
      (held-rise (Plain p.name) (slice_range held p.from p.until) (sorted-left known_cmp (own_plain held p) (known_plain held names) sorted), rise-each names (sorted-right known_cmp (own_plain held p) (known_plain held names) sorted))

-- ---- what is found

module _ (held : List HeldEntry) (test : Known → Bool) where
  abbrev found_in : List PlainName → Option Known
  found_in names = find test (known_plain held names)

  first-of : (names : List PlainName) (k : ℕ) (plain : PlainName) → slice_get names k ≡ Some plain → found_in (drop k names) ≡ option_or (find test (own_plain held plain)) (found_in (drop (k + 1) names))
  first-of names k plain here =
      ap found_in (drop-get names k plain here)
      ∙ find-append test (own_plain held plain) (known_plain held (drop (k + 1) names))

  some-or : (a b : Option Known) → is_some (option_map hit_of a) ≡ true → option_map hit_of a ≡ option_map hit_of (option_or a b)
  some-or None b e = absurd cc
  some-or (Some x) b e = refl

  none-or : (a b : Option Known) → is_some (option_map hit_of a) ≡ false → option_or a b ≡ b
  none-or None b e = refl
  none-or (Some x) b e = absurd cc

  -- the first name with a hit has the first hit of all
  pub names-found : (names : List PlainName) (k : ℕ) (plain : PlainName) (r : Option EntryId) → slice_get names k ≡ Some plain → r ≡ option_map hit_of (find test (own_plain held plain)) → is_some r ≡ true → found_in (drop k names) ≡ found_in names → r ≡ option_map hit_of (found_in names)
  names-found names k plain r here is some same =
      is
      ∙ (some-or (find test (own_plain held plain)) (found_in (drop (k + 1) names)) (ap is_some (sym is) ∙ some)
      ∙ ap (option_map hit_of) (sym (first-of names k plain here) ∙ same))

  pub names-past : (names : List PlainName) (k : ℕ) (plain : PlainName) (r : Option EntryId) → slice_get names k ≡ Some plain → r ≡ option_map hit_of (find test (own_plain held plain)) → is_some r ≡ false → found_in (drop k names) ≡ found_in names → found_in (drop (k + 1) names) ≡ found_in names
  names-past names k plain r here is none same =
      sym (none-or (find test (own_plain held plain)) (found_in (drop (k + 1) names)) (ap is_some (sym is) ∙ none))
      ∙ (sym (first-of names k plain here) ∙ same)

  -- what is found among plain names is plain
  images_plain : (plain : PlainName) (xs : List HeldEntry) (one : Known) → find test (map (known_held (Plain plain.name)) xs) ≡ Some one → class_count one.name ≡ 0
  images_plain plain [] one e = absurd cc
  images_plain plain (h ∷ xs) one e = by (test (known_held (Plain plain.name) h)) e (images_plain plain xs one)
    where
      by : (b : Bool) → cond b (Some (known_held (Plain plain.name) h)) (find test (map (known_held (Plain plain.name)) xs)) ≡ Some one → (find test (map (known_held (Plain plain.name)) xs) ≡ Some one → class_count one.name ≡ 0) → class_count one.name ≡ 0
      by true e rest = (let same : known_held (Plain plain.name) h ≡ one = cc in ap (λ (k : Known). class_count k.name) (sym same))
      by false e rest = rest e

  pub names-plain : (names : List PlainName) (one : Known) → found_in names ≡ Some one → class_count one.name ≡ 0
  names-plain [] one e = absurd cc
  names-plain (plain ∷ names) one e = by (find test (own_plain held plain)) refl (sym (find-append test (own_plain held plain) (known_plain held names)) ∙ e) (names-plain names one)
    where
      by : (o : Option Known) → find test (own_plain held plain) ≡ o → option_or o (found_in names) ≡ Some one → (found_in names ≡ Some one → class_count one.name ≡ 0) → class_count one.name ≡ 0
      by None f e rest = rest e
      by (Some k) f e rest = images_plain plain (slice_range held plain.from plain.until) one (f ∙ e)

  -- what one name has by itself
  pub found-only : (plain : PlainName) → find test (own_plain held plain) ≡ found_in (plain ∷ [])
  found-only plain = or-none (find test (own_plain held plain)) ∙ sym (find-append test (own_plain held plain) [])
    where
      or-none : (o : Option Known) → o ≡ option_or o None
      or-none None = refl
      or-none (Some x) = refl

  pub found-both : (names others : List PlainName) → found_in (names ++ others) ≡ option_or (found_in names) (found_in others)
  found-both [] others = refl
  found-both (p ∷ names) others =
      find-append test (own_plain held p) (known_plain held (names ++ others))
      ∙ (ap (option_or (find test (own_plain held p))) (found-both names others)
      ∙ (twice (find test (own_plain held p)) (found_in names) (found_in others)
      ∙ ap (λ o. option_or o (found_in others)) (sym (find-append test (own_plain held p) (known_plain held names)))))
    where
      twice : (a b c : Option Known) → option_or a (option_or b c) ≡ option_or (option_or a b) c
      twice None b c = refl
      twice (Some x) b c = refl

module _ (held : List HeldEntry) (wanted : Wanted) where
  own-held : (plain : PlainName) → find (is_wanted wanted) (own_plain held plain) ≡ option_map (known_held (Plain plain.name)) (find (holds wanted) (slice_range held plain.from plain.until))
  own-held plain = find_images true (known_held (Plain plain.name)) (is_wanted wanted) (holds wanted) (λ h. refl) (slice_range held plain.from plain.until)

  hit-twice : (plain : PlainName) (o : Option HeldEntry) → option_map hit_held o ≡ option_map hit_of (option_map (known_held (Plain plain.name)) o)
  hit-twice plain None = refl
  hit-twice plain (Some h) = refl

  pub own-wanted : (plain : PlainName) → option_map hit_held (find (holds wanted) (slice_range held plain.from plain.until)) ≡ option_map hit_of (find (is_wanted wanted) (own_plain held plain))
  own-wanted plain = hit-twice plain (find (holds wanted) (slice_range held plain.from plain.until)) ∙ ap (option_map hit_of) (sym (own-held plain))

  module _ (more : Bool) (digits : List ℕ) where
    pub own-is_asked : (plain : PlainName) (b : Bool) → (rank_of digits plain == rank (fitting more)) ≡ b → find (is_asked more wanted digits) (own_plain held plain) ≡ cond b (find (is_wanted wanted) (own_plain held plain)) None
    own-is_asked plain b e =
        find_images (fits more End (walk_after (singles plain.name) digits)) (known_held (Plain plain.name)) (is_asked more wanted digits) (holds wanted) (λ h. refl) (slice_range held plain.from plain.until)
        ∙ (ap (λ b. cond b (option_map (known_held (Plain plain.name)) (find (holds wanted) (slice_range held plain.from plain.until))) None) (fits-side more plain.name digits ∙ e)
        ∙ ap (λ o. cond b o None) (sym (own-held plain)))

    names-other : (names : List PlainName) → AllByRecursion (λ (p : PlainName). rank_of digits p ≡ rank (fitting more) → ⊥) names → find (is_asked more wanted digits) (known_plain held names) ≡ None
    names-other [] each = refl
    names-other (p ∷ names) each =
        find-append (is_asked more wanted digits) (own_plain held p) (known_plain held names)
        ∙ (ap (λ o. option_or o (find (is_asked more wanted digits) (known_plain held names))) (own-is_asked p false (ne_eqb (rank_of digits p) (rank (fitting more)) each.0))
        ∙ names-other names each.1)

    -- what is requested is not among the names that rank below those that fit
    pub found-rest : (names : List PlainName) (n : ℕ) → AllByRecursion (λ (p : PlainName). rank_of digits p < rank (fitting more)) (take n names) → find (is_asked more wanted digits) (known_plain held (drop n names)) ≡ find (is_asked more wanted digits) (known_plain held names)
    found-rest names n lower =
        let before : find (is_asked more wanted digits) (known_plain held (take n names)) ≡ None =
        names-other (take n names) (all-weaker (λ (p : PlainName). rank_of digits p < rank (fitting more)) (λ (p : PlainName). rank_of digits p ≡ rank (fitting more) → ⊥) (λ p low same. omega (arith, low, same)) (take n names) lower) in
        sym (ap (λ l. find (is_asked more wanted digits) (known_plain held l)) (sym (take-append-drop n names))
        ∙ (found-both held (is_asked more wanted digits) (take n names) (drop n names)
        ∙ ap (λ o. option_or o (find (is_asked more wanted digits) (known_plain held (drop n names)))) before))

    -- nor from a name on that ranks above those that fit
    pub found-ended : (names : List PlainName) (k : ℕ) (plain : PlainName) → NamesRise names → AllByRecursion (λ (p : PlainName). rank (fitting more) ≤ rank_of digits p) names → slice_get names k ≡ Some plain → (rank_of digits plain == rank (fitting more)) ≡ false → find (is_asked more wanted digits) (known_plain held (drop k names)) ≡ None
    found-ended names k plain rise least here other =
        let apart = eqb-false (rank_of digits plain) (rank (fitting more)) other in
        let low = all-at (λ (p : PlainName). rank (fitting more) ≤ rank_of digits p) names k plain least here in
        names-other (drop k names)
        (all-last (λ (p : PlainName). rank_of digits p ≡ rank (fitting more) → ⊥) names k (λ j p from there same. elim (cases_order k j) [
          | inl is ↦ apart (ap (rank_of digits) (same_Some plain p (sym here ∙ (ap (slice_get names) is ∙ there))) ∙ same)
          | inr (inl before) ↦
              let less = names-at names digits rise k j plain p before here there in
              apart (omega (arith, low, less, same))
          | inr (inr after) ↦ omega (arith, from, after)
        ]))

-- ---- plain names and then patterns

module _ (test : Known → Bool) (first rest : List Known) where
  pub both-some : (hit : EntryId) → Some hit ≡ option_map hit_of (find test first) → (find test (first ++ rest) ≡ find test first)
  both-some hit e = find-append test first rest ∙ by (find test first) e
    where
      by : (o : Option Known) → Some hit ≡ option_map hit_of o → option_or o (find test rest) ≡ o
      by None e = absurd cc
      by (Some k) e = refl

  pub both-none : None ≡ option_map hit_of (find test first) → find test (first ++ rest) ≡ find test rest
  both-none e = find-append test first rest ∙ by (find test first) e
    where
      by : (o : Option Known) → None ≡ option_map hit_of o → option_or o (find test rest) ≡ find test rest
      by None e = refl
      by (Some k) e = absurd cc

-- without nodes nothing is found below them
pub no-nodes : (test : Known → Bool) (held : List HeldEntry) (nodes : List Node) → length nodes ≡ 0 → find test (known_from held [] nodes) ≡ None
no-nodes test held [] none = refl
no-nodes test held (node ∷ nodes) none = absurd (omega (arith, none))

-- what is found has at most this number of classes
abbrev pub HasAtMost : Option Known → ℕ → Type 0
HasAtMost found count = MatchOption found (Unit {0}) (λ known. class_count known.name ≤ count)

pub none-counted : (o : Option Known) (count : ℕ) → ((one : Known) → o ≡ Some one → class_count one.name ≡ 0) → HasAtMost o count
none-counted None count each = tt
none-counted (Some one) count each = (let none = each one refl in omega (arith, none))

classes-counted : (m : Meaning) → class_count m ≤ length (classes_of m)
classes-counted (Plain text) = omega arith
classes-counted (Pattern classes tail) = omega arith

pub tree-counted : (o : Option Known) (count : ℕ) → MatchOption o (Unit {0}) (λ known. length (classes_of known.name) ≤ count) → HasAtMost o count
tree-counted None count few = tt
tree-counted (Some one) count few = (let less = classes-counted one.name in omega (arith, less, few))
