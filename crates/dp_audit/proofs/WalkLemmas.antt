-- Walks by a step that leads to at most one element, and the loops that they reach.
use Rattle.std.proofs.Common.{◌≡◌, ℕ, zero, suc, ◌+◌, ◌-◌, ◌<◌, ◌⊎◌, inl, inr, Bool, true, false, List, [], ◌∷◌, ◌++◌, length, slice_get, Option, Some, None, option_and_then, arith, refl, sym, ap, subst, ◌∙◌}
use Rattle.std.proofs.lemmas.Bool.{cases_lt}
use Rattle.std.proofs.lemmas.Option.{none-some, same_Some, slice_get_within}
use Rattle.dp_audit.specs.Loops.{IsFirstOfLoop, after}
use Rattle.dp_audit.specs.steps.Walks.{Closes, IsFrom, IsLeastFrom, IsOpen, IsSearched, IsWalk}

-- ---- elements of a list with one more

module _ {X : Type 0} where
  pub get_before : (xs : List X) (x : X) (k : ℕ) → k < length xs → slice_get (xs ++ x ∷ []) k ≡ slice_get xs k
  get_before [] x k below = absurd (omega (arith, below))
  get_before (y ∷ ys) x zero below = refl
  get_before (y ∷ ys) x (suc k) below = get_before ys x k (omega arith)

  pub get_last : (xs : List X) (x : X) (k : ℕ) → k ≡ length xs → slice_get (xs ++ x ∷ []) k ≡ Some x
  get_last [] x zero same = refl
  get_last [] x (suc k) same = absurd (omega (arith, same))
  get_last (y ∷ ys) x zero same = absurd (omega (arith, same))
  get_last (y ∷ ys) x (suc k) same = get_last ys x k (omega arith)

  never_past : (xs : List X) (k : ℕ) → k < length xs → slice_get xs k ≡ None → ⊥
  never_past [] k below none = omega (arith, below)
  never_past (x ∷ xs) zero below none = none-some x (sym none)
  never_past (x ∷ xs) (suc k) below none = never_past xs k (omega arith) none

  pub length_more : (xs : List X) (x : X) → length (xs ++ x ∷ []) ≡ suc (length xs)
  length_more [] x = refl
  length_more (y ∷ ys) x = ap suc (length_more ys x)

module _ {X : Type 0} (step : X → Option X) where
  -- ---- steps

  first_of : (m n k : ℕ) (y : X) (o : Option X) → ((next : X) → after step m next ≡ Some y → after step k next ≡ after step n y)
      → option_and_then (after step m) o ≡ Some y → option_and_then (after step k) o ≡ after step n y
  first_of m n k y None from here = absurd (none-some y here)
  first_of m n k y (Some next) from here = from next here

  -- some steps, and then others
  after-add : (m n k : ℕ) (x y : X) → k ≡ m + n → after step m x ≡ Some y → after step k x ≡ after step n y
  after-add zero n k x y sum here = λ i. after step (count i) (same_Some x y here i)
    where
      count : k ≡ n
      count = omega (arith, sum)
  after-add (suc m) n zero x y sum here = absurd (omega (arith, sum))
  after-add (suc m) n (suc k) x y sum here =
      first_of m n k y (step x) (λ next leads. after-add m n k next y (omega (arith, sum)) leads) here

  one_step : (o : Option X) → option_and_then (after step zero) o ≡ o
  one_step None = refl
  one_step (Some x) = refl

  -- one more step
  pub after-more : (n : ℕ) (x y : X) → after step n x ≡ Some y → after step (suc n) x ≡ step y
  after-more n x y here = after-add n (suc zero) (suc n) x y (omega arith) here ∙ one_step (step y)

  -- the first step, if there are any
  pub record Stepped (x : X) (more : ℕ) (end : X) : Type 0 where
    pub next : X
    pub there : step x ≡ Some next
    pub leads : after step more next ≡ Some end

  pub stepped : (more : ℕ) (x end : X) → after step (suc more) x ≡ Some end → Stepped x more end
  stepped more x end here = by (step x) refl here
    where
      by : (o : Option X) → step x ≡ o → option_and_then (after step more) o ≡ Some end → Stepped x more end
      by None is here = absurd (none-some end here)
      by (Some next) is here = record { next = next; there = is; leads = here }

  -- if some steps lead to an element of a loop, one or more lead back
  pub record Returning (x : X) (count : ℕ) : Type 0 where
    pub end : X
    pub there : after step count x ≡ Some end
    pub more : ℕ
    pub leads : after step (suc more) end ≡ Some x

  returns_next : (m : ℕ) (x : X) → after step (suc m) x ≡ Some x → (count : ℕ) → Returning x count → Returning x (suc count)
  returns_next m x again count now =
      let one = stepped now.more now.end x now.leads in
      by now.more one.next (after-more count x now.end now.there ∙ one.there) one.leads
    where
      by : (more : ℕ) (next : X) → after step (suc count) x ≡ Some next → after step more next ≡ Some x → Returning x (suc count)
      by zero next there leads =
          record { end = next; there = there; more = m; leads = subst (λ (y : X). after step (suc m) y ≡ Some x) (sym (same_Some next x leads)) again }
      by (suc more) next there leads = record { end = next; there = there; more = more; leads = leads }

  -- what reaches itself again also does so from wherever its steps lead
  pub returning : (m : ℕ) (x : X) → after step (suc m) x ≡ Some x → (count : ℕ) → Returning x count
  returning m x again zero = record { end = x; there = refl; more = m; leads = again }
  returning m x again (suc count) = returns_next m x again count (returning m x again count)

  -- one or more steps lead back from where these lead
  returns_from : (m : ℕ) (x : X) → after step (suc m) x ≡ Some x → (count : ℕ) (end : X) → after step count x ≡ Some end → Returning x count
  returns_from m x again count end there = returning m x again count

  -- ---- walks

  pub walk_none : (start : X) → IsWalk step start [] (Some start)
  walk_none start = record { each = λ place below. absurd (omega (arith, below)); last = refl }

  pub walk_more : (start x : X) (path : List X) → IsWalk step start path (Some x) → IsWalk step start (path ++ x ∷ []) (step x)
  walk_more start x path walk = record {
    each = λ place below. elim (cases_lt place (length path)) [
      | inl early ↦ get_before path x place early ∙ walk.each place early
      | inr late ↦ at_end place (omega (arith, late, below, length_more path x))
    ];
    last = ap (λ (n : ℕ). after step n start) (length_more path x) ∙ after-more (length path) start x walk.last;
  }
    where
      at_end : (place : ℕ) → place ≡ length path → slice_get (path ++ x ∷ []) place ≡ after step place start
      at_end place same = get_last path x place same ∙ sym walk.last ∙ ap (λ (n : ℕ). after step n start) (sym same)

-- ---- a walk and its end

module _ {X : Type 0} (step : X → Option X) (start : X) (path : List X) (end : Option X) (walk : IsWalk step start path end) where
  -- the element at a place is where this number of steps leads
  at_place : (place : ℕ) (x : X) → slice_get path place ≡ Some x → after step place start ≡ Some x
  at_place place x there = sym (walk.each place (slice_get_within path place x there)) ∙ there

  -- the next one comes after it, or is the end
  next_in : (place : ℕ) (x : X) → slice_get path place ≡ Some x → (slice_get path (suc place) ≡ step x) ⊎ (end ≡ step x)
  next_in place x there = elim (cases_lt (suc place) (length path)) [
    | inl early ↦ inl (walk.each (suc place) early ∙ after-more step place start x (at_place place x there))
    | inr late ↦ inr (at_end (omega (arith, late, slice_get_within path place x there)))
  ]
    where
      at_end : suc place ≡ length path → end ≡ step x
      at_end same = sym walk.last ∙ ap (λ (n : ℕ). after step n start) (sym same) ∙ after-more step place start x (at_place place x there)

  -- the rest of the steps lead to the end
  to_end : (place : ℕ) (x : X) → slice_get path place ≡ Some x → after step (length path - place) x ≡ end
  to_end place x there =
      let below = slice_get_within path place x there in
      sym (after-add step place (length path - place) (length path) start x (omega (arith, below)) (at_place place x there)) ∙ walk.last

-- ---- a walk that reaches its own path

module _ {X : Type 0} (step : X → Option X) (before : X → X → Bool) (start : X) (path : List X) (end : Option X) (walk : IsWalk step start path end) (a : X) (is : end ≡ Some a) (place : ℕ) (back : slice_get path place ≡ Some a) where
  -- steps from there stay in the path, not before the place
  stays_one : (x next : X) → IsFrom path place x → step x ≡ Some next → IsFrom path place next
  stays_one x next from there = elim (next_in step start path end walk from.number x from.there) [
    | inl inside ↦ record { number = suc from.number; late = omega (arith, from.late); there = inside ∙ there }
    | inr out ↦ record { number = place; late = omega arith; there = back ∙ (sym is ∙ (out ∙ there)) }
  ]

  stays : (count : ℕ) (x y : X) → IsFrom path place x → after step count x ≡ Some y → IsFrom path place y
  stays zero x y from here = subst (λ (z : X). IsFrom path place z) (same_Some x y here) from
  stays (suc count) x y from here =
      let one = stepped step count x y here in
      stays count one.next y (stays_one x one.next from one.there) one.leads

  -- steps lead from there to the place of an element
  from_there : (x : X) (from : IsFrom path place x) → after step (from.number - place) a ≡ Some x
  from_there x from =
      sym (after-add step place (from.number - place) from.number start a (omega (arith, from.late)) (at_place step start path end walk place a back))
      ∙ at_place step start path end walk from.number x from.there

  -- the least element from there on is the first of a loop
  pub least_is_first : (x : X) → IsLeastFrom before path place x → IsFirstOfLoop step before x
  least_is_first x least =
      let number = least.among.number in
      let below = slice_get_within path number x least.among.there in
      record {
        count = (length path - number) + (number - place) - 1;
        again =
            after-add step (length path - number) (number - place) (suc ((length path - number) + (number - place) - 1)) x a
            (omega (arith, below, least.among.late)) (to_end step start path end walk number x least.among.there ∙ is)
            ∙ from_there x least.among;
        first = λ steps other here. least.least other (stays steps x other least.among here);
      }

  -- and there is no other in the path
  pub first_is_least : ((x y : X) → before x y ≡ false → before y x ≡ false → x ≡ y) → (x : X) → IsLeastFrom before path place x
      → (y : X) → IsFrom path 0 y → IsFirstOfLoop step before y → y ≡ x
  first_is_least one x least y from first =
      let number = from.number in
      let to_a : after step (length path - number) y ≡ Some a = to_end step start path end walk number y from.there ∙ is in
      let again = returning step first.count y first.again (length path - number) in
      let same : again.end ≡ a = same_Some again.end a (sym again.there ∙ to_a) in
      let leads : after step (suc again.more) a ≡ Some y = subst (λ (z : X). after step (suc again.more) z ≡ Some y) same again.leads in
      let y_from = stays (suc again.more) a y (record { number = place; late = omega arith; there = back }) leads in
      let to_x : after step ((length path - number) + (least.among.number - place)) y ≡ Some x =
      after-add step (length path - number) (least.among.number - place) ((length path - number) + (least.among.number - place)) y a refl to_a
      ∙ from_there x least.among in
      one y x (least.least y y_from) (first.first ((length path - number) + (least.among.number - place)) x to_x)

-- if the path is left for one of its own elements, the least from there on is the first of a loop
module _ {X : Type 0} (step : X → Option X) (before : X → X → Bool) (start : X) (path : List X) (end : Option X) (walk : IsWalk step start path end) (x : X) (closes : Closes before path end x) where
  -- the element to which the path comes back
  record Back : Type 0 where
    a : X
    is : end ≡ Some a
    back : slice_get path closes.place ≡ Some a

  come_back : Back
  come_back = by (slice_get path closes.place) refl
    where
      by : (o : Option X) → slice_get path closes.place ≡ o → Back
      by None is =
          let below = slice_get_within path closes.least.among.number x closes.least.among.there in
          absurd (never_past path closes.place (omega (arith, below, closes.least.among.late)) is)
      by (Some a) is = record { a = a; is = sym closes.back ∙ is; back = is }

  pub closes_is_first : IsFirstOfLoop step before x
  closes_is_first = least_is_first step before start path end walk come_back.a come_back.is closes.place come_back.back x closes.least

  -- and there is no other in the path
  closes_alone : ((x y : X) → before x y ≡ false → before y x ≡ false → x ≡ y) → (y : X) → IsFrom path 0 y → IsFirstOfLoop step before y → y ≡ x
  closes_alone one y from first = first_is_least step before start path end walk come_back.a come_back.is closes.place come_back.back one x closes.least y from first

-- a loop goes on from its first element
pub record Leads {X : Type 0} (step : X → Option X) (x : X) : Type 0 where
  pub next : X
  pub there : step x ≡ Some next

pub first_leads : {X : Type 0} (step : X → Option X) (before : X → X → Bool) (x : X) → IsFirstOfLoop step before x → Leads step x
first_leads step before x first = let one = stepped step first.count x x first.again in record { next = one.next; there = one.there }

-- ---- what is known after a walk

module _ {X : Type 0} (step : X → Option X) (before : X → X → Bool) (seen firsts now_seen : X → Bool) (old : IsSearched step before seen firsts)
    (start : X) (path : List X) (end : Option X) (walk : IsWalk step start path end)
    (kept : (x : X) → seen x ≡ true → now_seen x ≡ true)
    (taken : (x : X) → IsFrom path 0 x → now_seen x ≡ true)
    (only : (x : X) → now_seen x ≡ true → (seen x ≡ true) ⊎ IsFrom path 0 x)
    (stop : (x : X) → end ≡ Some x → (now_seen x ≡ true) ⊎ (step x ≡ None)) where
  closed_after : (x y : X) → now_seen x ≡ true → step x ≡ Some y → (now_seen y ≡ true) ⊎ (step y ≡ None)
  closed_after x y here there = elim (only x here) [
    | inl earlier ↦ elim (old.closed x y earlier there) [ inl among ↦ inl (kept y among) | inr none ↦ inr none ]
    | inr from ↦ elim (next_in step start path end walk from.number x from.there) [
      | inl inside ↦ inl (taken y (record { number = suc from.number; late = omega arith; there = inside ∙ there }))
      | inr out ↦ stop y (out ∙ there)
    ]
  ]

  -- steps from what was seen earlier
  earlier_stays : (count : ℕ) (x y : X) → seen x ≡ true → after step count x ≡ Some y → (seen y ≡ true) ⊎ (step y ≡ None)
  earlier_stays zero x y here leads = inl (subst (λ (z : X). seen z ≡ true) (same_Some x y leads) here)
  earlier_stays (suc count) x y here leads =
      let one = stepped step count x y leads in
      elim (old.closed x one.next here one.there) [
        | inl among ↦ earlier_stays count one.next y among one.leads
        | inr none ↦ by count one.leads none
      ]
    where
      by : (count : ℕ) {next : X} → after step count next ≡ Some y → step next ≡ None → (seen y ≡ true) ⊎ (step y ≡ None)
      by zero {next} leads none = inr (subst (λ (z : X). step z ≡ None) (same_Some next y leads) none)
      by (suc count) {next} leads none =
          let one = stepped step count next y leads in
          absurd (none-some one.next (sym none ∙ one.there))

  -- if the path is left for none of its own elements, none of them reaches itself again, unless it was seen earlier
  module _ (open_end : IsOpen path end) (x : X) (from : IsFrom path 0 x) (first : IsFirstOfLoop step before x) where
    goes_on : (y : X) → step x ≡ Some y → step x ≡ None → ⊥
    goes_on y there none = none-some y (sym none ∙ there)

    again_at_end : Returning step x (length path - from.number)
    again_at_end = returning step first.count x first.again (length path - from.number)

    seen_earlier : seen x ≡ true
    seen_earlier = by end refl
      where
        at_seen : (a : X) → after step (suc again_at_end.more) a ≡ Some x → seen a ≡ true → seen x ≡ true
        at_seen a leads among = elim (earlier_stays (suc again_at_end.more) a x among leads) [
          | inl here ↦ here
          | inr none ↦ absurd (goes_on (stepped step first.count x x first.again).next (stepped step first.count x x first.again).there none)
        ]

        at_some : (a : X) → end ≡ Some a → after step (suc again_at_end.more) a ≡ Some x → seen x ≡ true
        at_some a is leads = elim (stop a is) [
          | inl here ↦ elim (only a here) [
            | inl among ↦ at_seen a leads among
            | inr own ↦ absurd (open_end own.number a own.there is)
          ]
          | inr none ↦ absurd (none-some (stepped step again_at_end.more a x leads).next (sym none ∙ (stepped step again_at_end.more a x leads).there))
        ]

        by : (o : Option X) → end ≡ o → seen x ≡ true
        by None is = absurd (none-some again_at_end.end (sym is ∙ (sym (to_end step start path end walk from.number x from.there) ∙ again_at_end.there)))
        by (Some a) is =
            let same : again_at_end.end ≡ a = same_Some again_at_end.end a (sym again_at_end.there ∙ (to_end step start path end walk from.number x from.there ∙ is)) in
            at_some a is (subst (λ (z : X). after step (suc again_at_end.more) z ≡ Some x) same again_at_end.leads)

  -- the path is left for none of its own elements
  pub searched_open : IsOpen path end → IsSearched step before now_seen firsts
  searched_open open_end = record {
    closed = closed_after;
    sound = old.sound;
    complete = λ x here first. elim (only x here) [
      | inl earlier ↦ old.complete x earlier first
      | inr from ↦ old.complete x (seen_earlier open_end x from first) first
    ];
  }

  -- the path is left for one of its own elements, and the least from there on is marked
  pub searched_closed : ((x y : X) → before x y ≡ false → before y x ≡ false → x ≡ y) → (x : X) → Closes before path end x → (now_firsts : X → Bool)
      → ((y : X) → firsts y ≡ true → now_firsts y ≡ true) → now_firsts x ≡ true → ((y : X) → now_firsts y ≡ true → (firsts y ≡ true) ⊎ (y ≡ x))
      → IsSearched step before now_seen now_firsts
  searched_closed one x closes now_firsts firsts_kept here firsts_only = record {
    closed = closed_after;
    sound = λ y marked. elim (firsts_only y marked) [
      | inl earlier ↦ old.sound y earlier
      | inr same ↦ subst (λ (z : X). IsFirstOfLoop step before z) (sym same) (closes_is_first step before start path end walk x closes)
    ];
    complete = λ y seen_now first. elim (only y seen_now) [
      | inl earlier ↦ firsts_kept y (old.complete y earlier first)
      | inr from ↦ subst (λ (z : X). now_firsts z ≡ true) (sym (closes_alone step before start path end walk x closes one y from first)) here
    ];
  }
