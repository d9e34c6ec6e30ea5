-- The members of a queue, given their agents: the member at a place, and changes of one member.
use Rattle.std.proofs.Common.{◌≡◌, ◌≢◌, ℕ, zero, suc, ◌<◌, ◌==◌, ◌||◌, Bool, true, false, List, [], ◌∷◌, ◌++◌, map, Option, Some, None, refl, sym, length, get_or, ap, ◌∙◌, arith, if◌then◌else◌, slice_get, subst, nat_eq}
use Rattle.std.proofs.lemmas.List.{get_or-map, length-map}
use Rattle.std.proofs.lemmas.List.Elements.{All-head, All-tail}
use Rattle.std.proofs.lemmas.List.Folds.{list_any-append}
use Rattle.std.proofs.lemmas.List.Quantifiers.{all_pairs_push}
use Rattle.std.proofs.lemmas.Option.{same_Some, none-some}
use Rattle.std.specs.HashMap.{get}
use Rattle.std.specs.List.{All, find, list_any, position}
use Rattle.std.specs.Option.{is_some, option_map}
use Rattle.dp_queue.specs.Calls.{finished_member}
use Rattle.dp_conf.specs.Changes.{changed_at}
use Rattle.dp_queue.specs.Changes.{without, one_more}
use Rattle.dp_queue.specs.Good.{StandOnce}
use Rattle.dp_queue.specs.steps.Held.{HintsOf, AreHeld, is_agent_at}
use Rattle.dp_queue.specs.Members.{is_agent, paused_member}
use Rattle.dp_queue.specs.declared.member.Member.{Member}
use Rattle.dp_queue.proofs.MemberLemmas.{agents-apart, pairs-head, pairs-tail, pairs-without}
use Rattle.dp_queue.proofs.PlacesLemmas.{position-cons}
use borrow.Author.Tests.{eqb-true}

-- different agents are not this one
others-fail : (a : ℕ) (m : Member) (ms : List Member) → m.agent ≡ a → StandOnce (m ∷ ms) → list_any (is_agent a) ms ≡ false
others-fail a m ms is once = none ms (pairs-head (λ (x : Member) (y : Member). x.agent ≢ y.agent) m ms once)
  where
    none : (xs : List Member) → All (λ y. m.agent ≢ y.agent) xs → list_any (is_agent a) xs ≡ false
    none [] apart = refl
    none (x ∷ xs) apart = by (x.agent == a) refl ∙ none xs (All-tail (λ (y : Member). m.agent ≢ y.agent) x xs apart)
      where
        by : (b : Bool) → (x.agent == a) ≡ b → (b || list_any (is_agent a) xs) ≡ list_any (is_agent a) xs
        by true same = absurd (All-head (λ (y : Member). m.agent ≢ y.agent) x xs apart (is ∙ sym (eqb-true x.agent a same)))
        by false other = refl

-- a list without a passing member has no place
pub position-any : (p : Member → Bool) (ms : List Member) → list_any p ms ≡ false → position p ms ≡ None
position-any p [] none = refl
position-any p (m ∷ ms) none = position-cons p m ms ∙ by (p m) none (position-any p ms)
  where
    by : (b : Bool) → (b || list_any p ms) ≡ false → (list_any p ms ≡ false → position p ms ≡ None) → (if b then Some 0 else option_map suc (position p ms)) ≡ None
    by true none rest = absurd (cc)
    by false none rest = ap (option_map suc) (rest none)

-- the cases of a first member and of the others
later_place : (b : Bool) (o : Option ℕ) (k : ℕ) → (if b then Some 0 else option_map suc o) ≡ Some (suc k) → (b ≡ false) × (o ≡ Some k)
later_place true o k e = absurd (omega (arith, same_Some 0 (suc k) e))
later_place false None k e = absurd (cc)
later_place false (Some j) k e = let same : j ≡ k = omega (arith, same_Some (suc j) (suc k) e) in (refl, ap (λ (n : ℕ). Some n) same)

first_place : (b : Bool) (o : Option ℕ) → (if b then Some 0 else option_map suc o) ≡ Some 0 → b ≡ true
first_place true o e = refl
first_place false None e = absurd (cc)
first_place false (Some j) e = absurd (omega (arith, same_Some (suc j) 0 e))

-- the member at its place is found
pub find-position : (p : Member → Bool) (ms : List Member) (k : ℕ) → position p ms ≡ Some k → slice_get ms k ≡ find p ms
find-position p [] k found = refl
find-position p (m ∷ ms) zero found =
    let here : p m ≡ true = first_place (p m) (position p ms) (sym (position-cons p m ms) ∙ found) in
    sym (ap (λ (b : Bool). if b then Some m else find p ms) here)
find-position p (m ∷ ms) (suc k) found =
    let parts : (p m ≡ false) × (position p ms ≡ Some k) = later_place (p m) (position p ms) k (sym (position-cons p m ms) ∙ found) in
    find-position p ms k parts.1 ∙ sym (ap (λ (b : Bool). if b then Some m else find p ms) parts.0)

pub find-any : (p : Member → Bool) (ms : List Member) → list_any p ms ≡ false → find p ms ≡ None
find-any p [] none = refl
find-any p (m ∷ ms) none = by (p m) none (find-any p ms)
  where
    by : (b : Bool) → (b || list_any p ms) ≡ false → (list_any p ms ≡ false → find p ms ≡ None) → (if b then Some m else find p ms) ≡ None
    by true none rest = absurd (cc)
    by false none rest = rest none

-- a place with the agent is its place
pub position-at : (a : ℕ) (ms : List Member) (k : ℕ) → StandOnce ms → is_agent_at a ms k ≡ true → Some k ≡ position (is_agent a) ms
position-at a [] k once here = absurd (cc)
position-at a (m ∷ ms) zero once here = sym (position-cons (is_agent a) m ms ∙ ap (λ (b : Bool). if b then Some 0 else option_map suc (position (is_agent a) ms)) here)
position-at a (m ∷ ms) (suc k) once here =
    by (is_agent a m) refl (position-at a ms k (pairs-tail (λ (x : Member) (y : Member). x.agent ≢ y.agent) m ms once) here) ∙ sym (position-cons (is_agent a) m ms)
  where
    by : (b : Bool) → is_agent a m ≡ b → Some k ≡ position (is_agent a) ms → Some (suc k) ≡ (if b then Some 0 else option_map suc (position (is_agent a) ms))
    by true same rest =
        let none : position (is_agent a) ms ≡ None = position-any (is_agent a) ms (others-fail a m ms (eqb-true m.agent a same) once) in
        absurd (none-some k (sym none ∙ sym rest))
    by false other rest = ap (option_map suc) rest

-- a change of the only member that is the agent
module _ (f : Member → Member) (a : ℕ) (others : (m : Member) → is_agent a m ≡ false → f m ≡ m) where
  pub map-none : (ms : List Member) → list_any (is_agent a) ms ≡ false → ms ≡ map f ms
  map-none [] none = refl
  map-none (m ∷ ms) none = by (is_agent a m) refl none (map-none ms)
    where
      by : (b : Bool) → is_agent a m ≡ b → (b || list_any (is_agent a) ms) ≡ false → (list_any (is_agent a) ms ≡ false → ms ≡ map f ms) → m ∷ ms ≡ f m ∷ map f ms
      by true here none rest = absurd (cc)
      by false other none rest = (λ i. sym (others m other) i ∷ rest none i)

  pub map-only : (ms : List Member) (k : ℕ) → StandOnce ms → position (is_agent a) ms ≡ Some k → changed_at f k ms ≡ map f ms
  map-only [] k once found = refl
  map-only (m ∷ ms) zero once found =
      let here : is_agent a m ≡ true = first_place (is_agent a m) (position (is_agent a) ms) (sym (position-cons (is_agent a) m ms) ∙ found) in
      ap (λ (t : List Member). f m ∷ t) (map-none ms (others-fail a m ms (eqb-true m.agent a here) once))
  map-only (m ∷ ms) (suc k) once found =
      let parts : (is_agent a m ≡ false) × (position (is_agent a) ms ≡ Some k) =
      later_place (is_agent a m) (position (is_agent a) ms) k (sym (position-cons (is_agent a) m ms) ∙ found) in
      let rest : changed_at f k ms ≡ map f ms = map-only ms k (pairs-tail (λ (x : Member) (y : Member). x.agent ≢ y.agent) m ms once) parts.1 in
      (λ i. sym (others m parts.0) i ∷ rest i)

-- members whose records change and whose agents do not
pub held-mapped : (f : Member → Member) → ((m : Member) → (f m).agent ≡ m.agent) → (hints : HintsOf) (ms ns : List Member) → ns ≡ map f ms
    → AreHeld hints ms → AreHeld hints ns
held-mapped f same hints ms ns is held = subst (AreHeld hints) (sym is) (once ms held.0, λ a. held.1 a ∙ sym (any a ms))
  where
    agent_at : (ms : List Member) (k : ℕ) (d : Member) → k < length ms → (get_or (map f ms) k d).agent ≡ (get_or ms k d).agent
    agent_at ms k d within = ap (λ (m : Member). m.agent) (get_or-map f ms k d d within) ∙ same (get_or ms k d)

    once : (ms : List Member) → StandOnce ms → StandOnce (map f ms)
    once ms apart j k d before within both =
        let inside : k < length ms = omega (arith, within, length-map ms f) in
        apart j k d before inside (sym (agent_at ms j d (omega (arith, before, inside))) ∙ both ∙ agent_at ms k d inside)

    any : (a : ℕ) (ms : List Member) → list_any (is_agent a) (map f ms) ≡ list_any (is_agent a) ms
    any a [] = refl
    any a (m ∷ ms) = (λ i. same m i == a || any a ms i)

-- one more member, whose agent is not yet one
pub held-push : (hints new : HintsOf) (ms ns : List Member) (m : Member) (place : ℕ) → list_any (is_agent m.agent) ms ≡ false → ns ≡ ms ++ m ∷ []
    → ((a : ℕ) → get nat_eq new a ≡ (if nat_eq m.agent a then Some place else get nat_eq hints a)) → AreHeld hints ms → AreHeld new ns
held-push hints new ms ns m place absent is put held = subst (AreHeld new) (sym is) (
  all_pairs_push (λ (x : Member) (y : Member). x.agent ≢ y.agent) ms m held.0 (agents-apart m.agent ms absent),
  λ a. ap is_some (put a) ∙ by a (m.agent == a) ∙ sym (list_any-append (is_agent a) ms (m ∷ [])),
)
  where
    or : (b d : Bool) → (b || (d || false)) ≡ (if d then true else b)
    or true true = refl
    or true false = refl
    or false true = refl
    or false false = refl

    by : (a : ℕ) (b : Bool) → is_some (if b then Some place else get nat_eq hints a) ≡ (list_any (is_agent a) ms || (b || false))
    by a true = sym (or (list_any (is_agent a) ms) true)
    by a false = held.1 a ∙ sym (or (list_any (is_agent a) ms) false)

-- after a member is removed its agent is not a member, and the others are unchanged
any-without : (a c : ℕ) (ms : List Member) → StandOnce ms → list_any (is_agent c) (without (is_agent a) ms) ≡ (if a == c then false else list_any (is_agent c) ms)
any-without a c [] once = by (a == c)
  where
    by : (b : Bool) → false ≡ (if b then false else false)
    by true = refl
    by false = refl
any-without a c (m ∷ ms) once =
    by (m.agent == a) refl (a == c) refl (any-without a c ms (pairs-tail (λ (x : Member) (y : Member). x.agent ≢ y.agent) m ms once))
  where
    by : (b : Bool) → (m.agent == a) ≡ b → (d : Bool) → (a == c) ≡ d
        → list_any (is_agent c) (without (is_agent a) ms) ≡ (if d then false else list_any (is_agent c) ms)
        → list_any (is_agent c) (if b then ms else m ∷ without (is_agent a) ms) ≡ (if d then false else (m.agent == c || list_any (is_agent c) ms))
    by true here true same rest = others-fail c m ms (eqb-true m.agent a here ∙ eqb-true a c same) once
    by true here false other rest =
        ap (λ (b : Bool). b || list_any (is_agent c) ms) (sym (ap (λ x. x == c) (eqb-true m.agent a here) ∙ other))
    by false there true same rest =
        ap (λ (b : Bool). b || list_any (is_agent c) (without (is_agent a) ms)) (sym (ap (λ x. m.agent == x) (eqb-true a c same)) ∙ there) ∙ rest
    by false there false other rest = ap (λ (b : Bool). m.agent == c || b) rest

pub held-without : (hints new : HintsOf) (ms ns : List Member) (a : ℕ) → ns ≡ without (is_agent a) ms
    → ((c : ℕ) → get nat_eq new c ≡ (if nat_eq a c then None else get nat_eq hints c)) → AreHeld hints ms → AreHeld new ns
held-without hints new ms ns a is put held = subst (AreHeld new) (sym is) (
  pairs-without (λ (x : Member) (y : Member). x.agent ≢ y.agent) (is_agent a) ms held.0,
  λ c. ap is_some (put c) ∙ by c (a == c) ∙ sym (any-without a c ms held.0),
)
  where
    by : (c : ℕ) (b : Bool) → is_some (if b then None else get nat_eq hints c) ≡ (if b then false else list_any (is_agent c) ms)
    by c true = refl
    by c false = held.1 c

-- without a place there is no such member
pub any-nowhere : (p : Member → Bool) (ms : List Member) → None ≡ position p ms → list_any p ms ≡ false
any-nowhere p [] absent = refl
any-nowhere p (m ∷ ms) absent = by (p m) (position p ms) (sym (position-cons p m ms) ∙ sym absent) (any-nowhere p ms)
  where
    by : (b : Bool) (o : Option ℕ) → (if b then Some 0 else option_map suc o) ≡ None → (None ≡ o → list_any p ms ≡ false) → (b || list_any p ms) ≡ false
    by true o e rest = absurd (cc)
    by false None e rest = rest refl
    by false (Some k) e rest = absurd (cc)

-- a pause and the end of a call change only the one member
pub paused-others : (a : ℕ) (is_paused : Bool) (m : Member) → is_agent a m ≡ false → paused_member a is_paused m ≡ m
paused-others a is_paused m other = ap (λ (b : Bool). record m { is_paused = if b then is_paused else m.is_paused }) other

pub finished-others : (a count : ℕ) (m : Member) → is_agent a m ≡ false → finished_member a count m ≡ m
finished-others a count m other = ap (λ (b : Bool). if b then record m { calls = one_more m.calls; last = count } else m) other

pub finished-agent : (a count : ℕ) (m : Member) → (finished_member a count m).agent ≡ m.agent
finished-agent a count m = by (is_agent a m)
  where
    by : (b : Bool) → (if b then record m { calls = one_more m.calls; last = count } else m).agent ≡ m.agent
    by true = refl
    by false = refl
