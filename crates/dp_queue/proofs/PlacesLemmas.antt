-- The places of hashes after one more element, and the walk along the places with one hash.
use Rattle.std.proofs.Common.{◌≡◌, ◌&&◌, nat_lt, not, ℕ, zero, suc, ◌+◌, ◌<◌, ◌≤◌, ◌==◌, Bool, true, false, List, [], ◌∷◌, ◌++◌, map, take, Option, Some, None, refl, sym, length, ap, ◌∙◌, arith, if◌then◌else◌, slice_get, ⊎_elim, nat_eq}
use Rattle.std.proofs.lemmas.Bool.{cases_lt}
use Rattle.std.proofs.lemmas.List.{length-map, length-take, length_push, map-append, take-append-le, take-map}
use Rattle.std.proofs.lemmas.List.Elements.{All-head, All-tail}
use Rattle.std.proofs.lemmas.Option.{same_Some, none-some, slice_get_within, slice_get-get_or, slice_get-map}
use Rattle.std.specs.List.{All, AllPairs, position, position_or_len}
use Rattle.std.specs.Option.{option_map}
use borrow.Author.Tests.{eqb-true, eq-eqb, ltb-true, ltb-false}
use Rattle.std.specs.HashMap.{get}
use Rattle.dp_conf.specs.Words.{same_text}
use Rattle.dp_queue.specs.steps.Places.{later, last_position, last_place, place_before, LastsOf, hashes_of, AreLasts, AreChained}
use Rattle.dp_queue.specs.declared.places.Link.{Link}
use Rattle.dp_queue.proofs.MemberLemmas.{pairs-head, pairs-tail}

module _ {X : Type 0} where
  -- an element before others
  pub slice_get-front : (xs ys : List X) (k : ℕ) → k < length xs → slice_get (xs ++ ys) k ≡ slice_get xs k
  slice_get-front [] ys k within = absurd (omega (arith, within))
  slice_get-front (x ∷ xs) ys zero within = refl
  slice_get-front (x ∷ xs) ys (suc k) within = slice_get-front xs ys k (omega (arith, within))

  -- and the one after them
  pub slice_get-last : (xs : List X) (x : X) → slice_get (xs ++ x ∷ []) (length xs) ≡ Some x
  slice_get-last [] x = refl
  slice_get-last (y ∷ xs) x = slice_get-last xs x

  -- one more element is the last one that passes, if it does
  pub last_position-push : (p : X → Bool) (xs : List X) (x : X) → last_position p (xs ++ x ∷ []) ≡ (if p x then Some (length xs) else last_position p xs)
  last_position-push p [] x = refl
  last_position-push p (y ∷ xs) x = ap (later (p y)) (last_position-push p xs x) ∙ by (p x)
    where
      by : (b : Bool) → later (p y) (if b then Some (length xs) else last_position p xs) ≡ (if b then Some (suc (length xs)) else later (p y) (last_position p xs))
      by true = refl
      by false = refl

-- the last places, including one more element
pub lasts-push : (lasts new : LastsOf) (hashes : List ℕ) (hash place : ℕ) → place ≡ length hashes → AreLasts lasts hashes
    → ((other : ℕ) → get nat_eq new other ≡ (if nat_eq hash other then Some place else get nat_eq lasts other)) → AreLasts new (hashes ++ hash ∷ [])
lasts-push lasts new hashes hash place here are put other =
    put other
    ∙ (λ i. if hash == other then Some (here i) else are other i)
    ∙ sym (last_position-push (λ (h : ℕ). h == other) hashes hash)

-- one more link at the end
pub chained-push : (links : List Link) (new : Link) → AreChained links → new.before ≡ last_place (hashes_of links) new.hash
    → AreChained (links ++ new ∷ [])
chained-push links new chained before k link here = ⊎_elim old last (cases_lt k (length links))
  where
    hashes : hashes_of (links ++ new ∷ []) ≡ hashes_of links ++ new.hash ∷ []
    hashes = map-append (λ (l : Link). l.hash) links (new ∷ [])

    front : k ≤ length links → take k (hashes_of (links ++ new ∷ [])) ≡ take k (hashes_of links)
    front within = ap (take k) hashes ∙ take-append-le k (hashes_of links) (new.hash ∷ []) (omega (arith, within, length-map links (λ (l : Link). l.hash)))

    old : k < length links → link.before ≡ last_place (take k (hashes_of (links ++ new ∷ []))) link.hash
    old within =
        chained k link (sym (slice_get-front links (new ∷ []) k within) ∙ here)
        ∙ ap (λ hs. last_place hs link.hash) (sym (front (omega (arith, within))))

    all : (hs : List ℕ) → take (length hs) hs ≡ hs
    all [] = refl
    all (h ∷ hs) = ap (λ (t : List ℕ). h ∷ t) (all hs)

    last : length links ≤ k → link.before ≡ last_place (take k (hashes_of (links ++ new ∷ []))) link.hash
    last past =
        let within : k < length (links ++ new ∷ []) = slice_get_within (links ++ new ∷ []) k link here in
        let is : k ≡ length links = omega (arith, past, within, length_push links new) in
        let same : new ≡ link = same_Some new link (sym (slice_get-last links new) ∙ ap (slice_get (links ++ new ∷ [])) (sym is) ∙ here) in
        let count : k ≡ length (hashes_of links) = omega (arith, is, length-map links (λ (l : Link). l.hash)) in
        (λ i. (sym same i).before) ∙ before ∙ (λ i. last_place (hashes_of links) (same i).hash)
        ∙ ap (λ hs. last_place hs link.hash) (sym (front (omega (arith, is)) ∙ ap (λ n. take n (hashes_of links)) count ∙ all (hashes_of links)))

-- the number of elements up to and including a place
abbrev pub size_through : Option ℕ → ℕ
size_through None = 0
size_through (Some place) = suc place

-- if there is no place, the first element does not pass and the rest has none
later-none : (b : Bool) (o : Option ℕ) → later b o ≡ None → (b ≡ false) × (o ≡ None)
later-none true None e = absurd (cc)
later-none false None e = (refl, refl)
later-none b (Some k) e = absurd (cc)

module _ {X : Type 0} where
  -- the last one that passes a test is at or before the last one that passes an easier test
  pub last_position-size_through : (p q : X → Bool) → ((x : X) → p x ≡ true → q x ≡ true) → (xs : List X)
      → last_position p (take (size_through (last_position q xs)) xs) ≡ last_position p xs
  last_position-size_through p q easier [] = refl
  last_position-size_through p q easier (x ∷ xs) = by (last_position q xs) (q x) refl (last_position-size_through p q easier xs)
    where
      neither : (b : Bool) → p x ≡ b → q x ≡ false → None ≡ later b None
      neither true passes fails = let both : q x ≡ true = easier x passes in absurd (cc)
      neither false passes fails = refl

      by : (o : Option ℕ) (b : Bool) → q x ≡ b → last_position p (take (size_through o) xs) ≡ last_position p xs
          → last_position p (take (size_through (later b o)) (x ∷ xs)) ≡ later (p x) (last_position p xs)
      by None true here rest = ap (later (p x)) rest
      by None false here rest = neither (p x) refl here ∙ ap (later (p x)) rest
      by (Some k) b here rest = ap (later (p x)) rest

  -- the last one that passes among those up to a place
  pub last_position-at : (p : X → Bool) (xs : List X) (k : ℕ) (x : X) → slice_get xs k ≡ Some x
      → last_position p (take (suc k) xs) ≡ (if p x then Some k else last_position p (take k xs))
  last_position-at p [] k x here = absurd (cc)
  last_position-at p (y ∷ xs) zero x here = ap (λ z. later (p z) None) (same_Some y x here)
  last_position-at p (y ∷ xs) (suc k) x here = ap (later (p y)) (last_position-at p xs k x here) ∙ by (p x)
    where
      by : (b : Bool) → later (p y) (if b then Some k else last_position p (take k xs)) ≡ (if b then Some (suc k) else later (p y) (last_position p (take k xs)))
      by true = refl
      by false = refl

  -- it is one of them
  pub size_through-most : (p : X → Bool) (xs : List X) → size_through (last_position p xs) ≤ length xs
  size_through-most p [] = omega arith
  size_through-most p (x ∷ xs) = by (p x) (last_position p xs) (size_through-most p xs)
    where
      by : (b : Bool) (o : Option ℕ) → size_through o ≤ length xs → size_through (later b o) ≤ suc (length xs)
      by true None most = omega arith
      by false None most = omega arith
      by b (Some k) most = omega (arith, most)

  -- and passes
  pub last_position-passes : (p : X → Bool) (xs : List X) (k : ℕ) → last_position p xs ≡ Some k
      → (x : X) → slice_get xs k ≡ Some x → p x ≡ true
  last_position-passes p [] k found x here = absurd (cc)
  last_position-passes p (y ∷ xs) k found x here =
      by (p y) refl (last_position p xs) k found here (λ (j : ℕ). last_position-passes p xs j)
    where
      by : (b : Bool) → p y ≡ b → (o : Option ℕ) → (k : ℕ) → later b o ≡ Some k → slice_get (y ∷ xs) k ≡ Some x
          → ((j : ℕ) → o ≡ Some j → (z : X) → slice_get xs j ≡ Some z → p z ≡ true) → p x ≡ true
      by true passes None zero e here rest = ap p (sym (same_Some y x here)) ∙ passes
      by true passes None (suc k) e here rest = absurd (omega (arith, same_Some 0 (suc k) e))
      by false passes None k e here rest = absurd (cc)
      by b passes (Some j) zero e here rest = absurd (omega (arith, same_Some (suc j) 0 e))
      by b passes (Some j) (suc k) e here rest =
          let same : j ≡ k = omega (arith, same_Some (suc j) (suc k) e) in
          rest k (ap (λ (n : ℕ). Some n) same) x here

  -- the first elements of the first elements
  take-fewer : (m n : ℕ) (xs : List X) → m ≤ n → take m (take n xs) ≡ take m xs
  take-fewer zero n xs fewer = refl
  take-fewer (suc m) zero xs fewer = absurd (omega (arith, fewer))
  take-fewer (suc m) (suc n) [] fewer = refl
  take-fewer (suc m) (suc n) (x ∷ xs) fewer = ap (λ (t : List X). x ∷ t) (take-fewer m n xs (omega (arith, fewer)))

  -- the same, given numbers of the elements
  pub last_position-map : {Y : Type 0} (p : Y → Bool) (f : X → Y) (xs : List X) → last_position p (map f xs) ≡ last_position (λ x. p (f x)) xs
  last_position-map p f [] = refl
  last_position-map p f (x ∷ xs) = ap (later (p (f x))) (last_position-map p f xs)

-- a walk along the places with a hash: the passing element is before the next place, and that place has the hash
pub record IsWalked {X : Type 0} (p : X → Bool) (f : X → ℕ) (hash : ℕ) (xs : List X) (at : Option ℕ) : Type 0 where
  pub rest : last_position p (take (size_through at) xs) ≡ last_position p xs
  pub has : (k : ℕ) → at ≡ Some k → slice_get (map f xs) k ≡ Some hash

module _ {X : Type 0} (p : X → Bool) (f : X → ℕ) (hash : ℕ) (same : (x : X) → p x ≡ true → f x ≡ hash) where
  hashed : (x : X) → p x ≡ true → (f x == hash) ≡ true
  hashed x passes = eq-eqb (f x) hash (same x passes)

  -- the hash of a last place
  has-last : (xs : List X) (k : ℕ) → last_position (λ x. f x == hash) xs ≡ Some k → slice_get (map f xs) k ≡ Some hash
  has-last xs k found =
      let within : k < length xs = omega (arith, size_through-most (λ (x : X). f x == hash) xs, ap size_through found) in
      by (slice_get xs k) refl within
    where
      by : (o : Option X) → slice_get xs k ≡ o → k < length xs → slice_get (map f xs) k ≡ Some hash
      by None here within = absurd (none-some _ (sym here ∙ slice_get-get_or xs k (first xs within) within))
        where
          first : (xs : List X) → k < length xs → X
          first [] within = absurd (omega (arith, within))
          first (x ∷ xs) within = x
      by (Some x) here within =
          slice_get-map f xs k ∙ ap (option_map f) here
          ∙ ap (λ (h : ℕ). Some h) (eqb-true (f x) hash (last_position-passes (λ (y : X). f y == hash) xs k found x here))

  -- the walk begins
  pub walked-first : (xs : List X) (at : Option ℕ) → at ≡ last_place (map f xs) hash → IsWalked p f hash xs at
  walked-first xs at is =
      let place : at ≡ last_position (λ x. f x == hash) xs = is ∙ last_position-map (λ (h : ℕ). h == hash) f xs in
      record {
        rest = ap (λ o. last_position p (take (size_through o) xs)) place ∙ last_position-size_through p (λ x. f x == hash) hashed xs;
        has = λ k here. has-last xs k (sym place ∙ here);
      }

  -- it continues from a place that does not pass
  pub walked-next : (xs : List X) (k : ℕ) (x : X) (at : Option ℕ) → IsWalked p f hash xs (Some k) → slice_get xs k ≡ Some x → p x ≡ false
      → at ≡ place_before (map f xs) k (slice_get (map f xs) k) → IsWalked p f hash xs at
  walked-next xs k x at walked here fails is =
      let place : at ≡ last_position (λ y. f y == hash) (take k xs) =
      is ∙ ap (place_before (map f xs) k) (walked.has k refl) ∙ ap (λ hs. last_place hs hash) (take-map f k xs)
      ∙ last_position-map (λ (h : ℕ). h == hash) f (take k xs) in
      let most : size_through at ≤ k = omega (arith, ap size_through place, size_through-most (λ (y : X). f y == hash) (take k xs), length-take k xs) in
      record {
        rest =
            sym (ap (last_position p) (take-fewer (size_through at) k xs most))
            ∙ ap (λ o. last_position p (take (size_through o) (take k xs))) place
            ∙ last_position-size_through p (λ y. f y == hash) hashed (take k xs)
            ∙ sym (last_position-at p xs k x here ∙ ap (λ (b : Bool). if b then Some k else last_position p (take k xs)) fails)
            ∙ walked.rest;
        has = λ j found.
            sym (slice_get-fewer k (map f xs) j (omega (arith, most, ap size_through found)))
            ∙ ap (λ hs. slice_get hs j) (take-map f k xs) ∙ has-last (take k xs) j (sym place ∙ found);
      }
    where
      slice_get-fewer : {Y : Type 0} (n : ℕ) (ys : List Y) (j : ℕ) → j < n → slice_get (take n ys) j ≡ slice_get ys j
      slice_get-fewer zero ys j fewer = absurd (omega (arith, fewer))
      slice_get-fewer (suc n) [] j fewer = refl
      slice_get-fewer (suc n) (y ∷ ys) zero fewer = refl
      slice_get-fewer (suc n) (y ∷ ys) (suc j) fewer = slice_get-fewer n ys j (omega (arith, fewer))

  -- the element at the place of a walk
  pub walked-there : (xs : List X) (k : ℕ) → IsWalked p f hash xs (Some k) → (x : X) × (slice_get xs k ≡ Some x)
  walked-there xs k walked = by (slice_get xs k) refl
    where
      by : (o : Option X) → slice_get xs k ≡ o → (x : X) × (slice_get xs k ≡ Some x)
      by None here = absurd (none-some hash (sym (slice_get-map f xs k ∙ ap (option_map f) here) ∙ walked.has k refl))
      by (Some x) here = (x, here)

  -- it ends at the element that passes
  pub walked-found : (xs : List X) (k : ℕ) (x : X) → IsWalked p f hash xs (Some k) → slice_get xs k ≡ Some x → p x ≡ true → last_position p xs ≡ Some k
  walked-found xs k x walked here passes =
      sym walked.rest ∙ last_position-at p xs k x here ∙ ap (λ (b : Bool). if b then Some k else last_position p (take k xs)) passes

-- the first place that passes, given the place in the rest
pub position-cons : {X : Type 0} (p : X → Bool) (x : X) (xs : List X) → position p (x ∷ xs) ≡ (if p x then Some 0 else option_map suc (position p xs))
position-cons p x xs = by (p x) (position_or_len p xs) (length xs)
  where
    by : (b : Bool) (n m : ℕ) → (if nat_lt (if not b then 1 + n else 0) (suc m) then Some (if not b then 1 + n else 0) else None)
        ≡ (if b then Some 0 else option_map suc (if nat_lt n m then Some n else None))
    by true n m = at_first (nat_lt 0 (suc m)) (Some 0) refl
      where
        at_first : (b : Bool) (o : Option ℕ) → nat_lt 0 (suc m) ≡ b → (if b then o else None) ≡ o
        at_first true o e = refl
        at_first false o e = absurd (omega (arith, ltb-false 0 (suc m) e))
    by false n m = let one : 1 + n ≡ suc n = omega arith in ap (λ k. if nat_lt k (suc m) then Some k else None) one ∙ less (nat_lt n m) (nat_lt (suc n) (suc m)) refl refl
      where
        less : (b d : Bool) → nat_lt n m ≡ b → nat_lt (suc n) (suc m) ≡ d → (if d then Some (suc n) else None) ≡ option_map suc (if b then Some n else None)
        less true true e f = refl
        less true false e f = absurd (omega (arith, ltb-true n m e, ltb-false (suc n) (suc m) f))
        less false true e f = absurd (omega (arith, ltb-false n m e, ltb-true (suc n) (suc m) f))
        less false false e f = refl

-- if at most one element passes, the first is the last
pub last_position-only : {X : Type 0} (p : X → Bool) (xs : List X) → AllPairs (λ x y. p x ≡ true → p y ≡ false) xs → last_position p xs ≡ position p xs
last_position-only p [] only = refl
last_position-only {X} p (x ∷ xs) only =
    ap (later (p x)) (last_position-only p xs (pairs-tail (λ (y : X) (z : X). p y ≡ true → p z ≡ false) x xs only))
    ∙ by (p x) refl (position p xs) (λ passes. none xs (λ k d within. pairs-head (λ (y : X) (z : X). p y ≡ true → p z ≡ false) x xs only k d within passes))
    ∙ sym (position-cons p x xs)
  where
    none : (ys : List X) → All (λ y. p y ≡ false) ys → position p ys ≡ None
    none [] fails = refl
    none (y ∷ ys) fails =
        position-cons p y ys ∙ ap (λ (b : Bool). if b then Some 0 else option_map suc (position p ys)) (All-head (λ (z : X). p z ≡ false) y ys fails)
        ∙ ap (option_map suc) (none ys (All-tail (λ (z : X). p z ≡ false) y ys fails))

    by : (b : Bool) → p x ≡ b → (o : Option ℕ) → (p x ≡ true → o ≡ None) → later b o ≡ (if b then Some 0 else option_map suc o)
    by true passes None gone = refl
    by true passes (Some k) gone = absurd (none-some k (sym (gone passes)))
    by false fails None gone = refl
    by false fails (Some k) gone = refl

-- two texts with the same bytes are equal
pub text-same : (a b : List ℕ) → same_text a b ≡ true → a ≡ b
text-same [] [] same = refl
text-same [] (y ∷ ys) same = absurd (cc)
text-same (x ∷ xs) [] same = absurd (cc)
text-same (x ∷ xs) (y ∷ ys) same =
    let parts : ((x == y) ≡ true) × (same_text xs ys ≡ true) = both (x == y) (same_text xs ys) same in
    (λ i. eqb-true x y parts.0 i ∷ text-same xs ys parts.1 i)
  where
    both : (a b : Bool) → (a && b) ≡ true → (a ≡ true) × (b ≡ true)
    both true b e = (refl, e)
    both false b e = absurd (cc)

-- the walk continues to earlier places
pub before-less : (hashes : List ℕ) (k : ℕ) (at : Option ℕ) → at ≡ place_before hashes k (slice_get hashes k) → size_through at < suc k
before-less hashes k at is = by (slice_get hashes k) is
  where
    by : (o : Option ℕ) → at ≡ place_before hashes k o → size_through at < suc k
    by None e = omega (arith, ap size_through e)
    by (Some h) e = omega (arith, ap size_through e, size_through-most (λ (other : ℕ). other == h) (take k hashes), length-take k hashes)
