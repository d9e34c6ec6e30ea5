-- Waiting lists and agents stay linked after each change.
use Rattle.std.proofs.Common.{◌≡◌, ℕ, zero, suc, ◌+◌, ◌<◌, ◌≤◌, ◌==◌, Bool, true, false, ◌||◌, List, [], ◌∷◌, Option, Some, None, refl, sym, length, ap, ◌∙◌, arith, if◌then◌else◌, subst}
use Rattle.std.proofs.lemmas.Option.{none-some}
use Rattle.dp_queue.specs.Agents.{state_at, is_idle, is_talking, rings_for, talks_with, with_state_at, freed_state, all_freed}
use Rattle.dp_conf.specs.Changes.{changed_at}
use Rattle.dp_queue.specs.Good.{IsRight, AreMembers, AreLinked}
use Rattle.dp_queue.specs.Joining.{waits_in, times_waiting, with_caller, without_caller}
use Rattle.dp_queue.specs.Queues.{QueueOf}
use Rattle.dp_queue.specs.steps.Seats.{rung_count}
use Rattle.dp_queue.specs.declared.agent.Agent.{Agent}
use Rattle.dp_queue.specs.declared.agent.AgentState.{AgentState}
use Rattle.dp_queue.specs.declared.agent.AgentState.TheVariants.{Idle, Ringing, Talking}
use Rattle.dp_queue.proofs.AgentLemmas.{state_at-same, state_at-other, state_at-idle_if_ringing, state_at-within}
use Rattle.dp_queue.proofs.ChangeLemmas.{length-changed_at}
use Rattle.dp_queue.proofs.MemberLemmas.{keeps-same, members-changed, members-idle_if_ringing, members-set}
use Rattle.dp_queue.proofs.WaitingLemmas.{waits_in-joined, times-joined, times-none, waits_in-left, times-left, waits_in-same, times-same, lines}
use borrow.Author.Tests.{eqb-true, eq-eqb}

-- the cases of a test, each with its outcome
pub by_test : {P : Type 0} (b : Bool) → (b ≡ true → P) → (b ≡ false → P) → P
by_test true first second = first refl
by_test false first second = second refl

-- different numbers, in the other order
pub other_way : (a b : ℕ) → (a == b) ≡ false → (b == a) ≡ false
other_way a b other = by_test (b == a)
    (λ (same : (b == a) ≡ true). let is : b ≡ a = eqb-true b a same in
    let P : ℕ → Type 0 = λ x. (x == b) ≡ false in
    absurd (true_is_false (sym (self b) ∙ subst P (sym is) other)))
    (λ (e : (b == a) ≡ false). e)
  where
    self : (n : ℕ) → (n == n) ≡ true
    self n = eq-eqb n n refl

    true_is_false : true ≡ false → ⊥
    true_is_false e = cc

-- an agent that is right does not talk with a waiting channel
pub right-untalked : (qs : List QueueOf) (c k : ℕ) (s : AgentState) → waits_in qs c ≡ Some k → IsRight qs s → talks_with c s ≡ false
right-untalked qs c k Idle waits right = refl
right-untalked qs c k (Ringing j d) waits right = refl
right-untalked qs c k (Talking j d) waits right = by_test (d == c)
    (λ (same : (d == c) ≡ true). absurd (none-some k (sym right.0 ∙ ap (waits_in qs) (eqb-true d c same) ∙ waits)))
    (λ (e : (d == c) ≡ false). e)

-- and does not ring for one that waits nowhere
pub right-unrung : (qs : List QueueOf) (c : ℕ) (s : AgentState) → waits_in qs c ≡ None → IsRight qs s → rings_for c s ≡ false
right-unrung qs c Idle waits right = refl
right-unrung qs c (Ringing j d) waits right = by_test (d == c)
    (λ (same : (d == c) ≡ true). absurd (none-some j (sym waits ∙ sym (ap (waits_in qs) (eqb-true d c same)) ∙ right)))
    (λ (e : (d == c) ≡ false). e)
right-unrung qs c (Talking j d) waits right = refl

-- an agent that is not concerned with the one channel that changed its place stays right
pub right-but : (qs ps : List QueueOf) (c : ℕ) (o : Option ℕ) (s : AgentState) → length ps ≡ length qs
    → ((d : ℕ) → waits_in ps d ≡ (if c == d then o else waits_in qs d)) → rings_for c s ≡ false → talks_with c s ≡ false
    → IsRight qs s → IsRight ps s
right-but qs ps c o Idle same waits unrung untalked right = tt
right-but qs ps c o (Ringing k d) same waits unrung untalked right =
    waits d ∙ ap (λ (b : Bool). if b then o else waits_in qs d) (other_way d c unrung) ∙ right
right-but qs ps c o (Talking k d) same waits unrung untalked right =
    (waits d ∙ ap (λ (b : Bool). if b then o else waits_in qs d) (other_way d c untalked) ∙ right.0, omega (arith, same, right.1))

-- an agent stays right if the channels wait as before
pub right-same : (qs ps : List QueueOf) (s : AgentState) → length ps ≡ length qs → ((d : ℕ) → waits_in ps d ≡ waits_in qs d)
    → IsRight qs s → IsRight ps s
right-same qs ps Idle same waits right = tt
right-same qs ps (Ringing k d) same waits right = waits d ∙ right
right-same qs ps (Talking k d) same waits right = (waits d ∙ right.0, omega (arith, same, right.1))

-- an agent that was made idle is right, does not ring for the channel and talks as before
pub right-freed : (qs : List QueueOf) (c : ℕ) (s : AgentState) → IsRight qs s → IsRight qs (freed_state c s)
right-freed qs c Idle right = tt
right-freed qs c (Ringing k d) right = by (d == c)
  where
    by : (b : Bool) → IsRight qs (if b then Idle else Ringing k d)
    by true = tt
    by false = right
right-freed qs c (Talking k d) right = right

pub rings_for-freed : (c : ℕ) (s : AgentState) → rings_for c (freed_state c s) ≡ false
rings_for-freed c Idle = refl
rings_for-freed c (Ringing k d) = by_test (d == c)
    (λ (same : (d == c) ≡ true). ap (λ (b : Bool). rings_for c (if b then Idle else Ringing k d)) same)
    (λ (e : (d == c) ≡ false). ap (λ (b : Bool). rings_for c (if b then Idle else Ringing k d)) e ∙ e)
rings_for-freed c (Talking k d) = refl

pub talks_with-freed : (c d : ℕ) (s : AgentState) → talks_with d (freed_state c s) ≡ talks_with d s
talks_with-freed c d Idle = refl
talks_with-freed c d (Ringing k e) = by (e == c)
  where
    by : (b : Bool) → talks_with d (if b then Idle else Ringing k e) ≡ false
    by true = refl
    by false = refl
talks_with-freed c d (Talking k e) = refl

-- for another channel it rings as before
pub rings_for-freed_other : (c d : ℕ) (s : AgentState) → (c == d) ≡ false → rings_for d (freed_state c s) ≡ rings_for d s
rings_for-freed_other c d Idle other = refl
rings_for-freed_other c d (Ringing k e) other = by_test (e == c)
    (λ (same : (e == c) ≡ true). ap (λ (b : Bool). rings_for d (if b then Idle else Ringing k e)) same ∙ sym (ap (λ x. x == d) (eqb-true e c same) ∙ other))
    (λ (no_match : (e == c) ≡ false). ap (λ (b : Bool). rings_for d (if b then Idle else Ringing k e)) no_match)
rings_for-freed_other c d (Talking k e) other = refl

pub rung-freed : (c d : ℕ) (as' : List Agent) → (c == d) ≡ false → rung_count (all_freed c as') d ≡ rung_count as' d
rung-freed c d [] other = refl
rung-freed c d (a ∷ as') other = (λ i. (if rings_for-freed_other c d a.state other i then 1 else 0) + rung-freed c d as' other i)

-- if no agent rings for the channel the number is zero
pub rung-nobody : (as' : List Agent) (c : ℕ) → ((a : ℕ) → rings_for c (state_at as' a) ≡ false) → rung_count as' c ≡ 0
rung-nobody [] c none = refl
rung-nobody (a ∷ as') c none =
    let here : ◌≡◌ {A = ℕ} (if rings_for c a.state then 1 else 0) 0 = ap (λ (b : Bool). if b then 1 else 0) (none 0) in
    omega (arith, here, rung-nobody as' c (λ b. none (suc b)))

-- if none talks with it, no agent with a number does
pub is_talking-none : (as' : List Agent) (c : ℕ) → is_talking as' c ≡ false → (a : ℕ) → talks_with c (state_at as' a) ≡ false
is_talking-none [] c none a = refl
is_talking-none (x ∷ as') c none zero = by (talks_with c x.state) none
  where
    by : (b : Bool) → (b || is_talking as' c) ≡ false → b ≡ false
    by true e = e
    by false e = refl
is_talking-none (x ∷ as') c none (suc a) = is_talking-none as' c (by (talks_with c x.state) none) a
  where
    by : (b : Bool) → (b || is_talking as' c) ≡ false → is_talking as' c ≡ false
    by true e = absurd (cc)
    by false e = e

module _ (qs : List QueueOf) (as' : List Agent) (good : AreLinked qs as') where
  -- a channel that neither waits nor talks joins a queue
  pub linked-joined : (c k : ℕ) → waits_in qs c ≡ None → is_talking as' c ≡ false → k < length qs
      → AreLinked (changed_at (with_caller c) k qs) as'
  linked-joined c k nowhere silent within = record {
    waits_once = λ d. once d (c == d) refl;
    rings_right = λ a. right-but qs (changed_at (with_caller c) k qs) c (Some k) (state_at as' a) (length-changed_at (with_caller c) k qs)
        (λ d. waits_in-joined qs c k d within nowhere) (right-unrung qs c (state_at as' a) nowhere (good.rings_right a))
        (is_talking-none as' c silent a) (good.rings_right a);
    talks_once = good.talks_once;
    members = members-changed (with_caller c) k qs (changed_at (with_caller c) k qs) as' (keeps-same (with_caller c) (λ q. refl)) refl good.members;
  }
    where
      once : (d : ℕ) (b : Bool) → (c == d) ≡ b → times_waiting (changed_at (with_caller c) k qs) d ≤ 1
      once d true same =
          let is : c ≡ d = eqb-true c d same in
          let none : times_waiting qs d ≡ 0 = ap (times_waiting qs) (sym is) ∙ times-none qs c nowhere in
          let more : times_waiting (changed_at (with_caller c) k qs) d ≡ times_waiting qs d + 1 =
          times-joined qs c k d within ∙ ap (λ (b : Bool). times_waiting qs d + (if b then 1 else 0)) same in
          omega (arith, none, more)
      once d false other =
          let more : times_waiting (changed_at (with_caller c) k qs) d ≡ times_waiting qs d + 0 =
          times-joined qs c k d within ∙ ap (λ (b : Bool). times_waiting qs d + (if b then 1 else 0)) other in
          omega (arith, good.waits_once d, more)

  -- a channel leaves the queue where it waits
  pub linked-left : (c k : ℕ) → waits_in qs c ≡ Some k → AreLinked (changed_at (without_caller c) k qs) (all_freed c as')
  linked-left c k waits = record {
    waits_once = λ d. omega (arith, times-left qs c k d, good.waits_once d);
    rings_right = λ a.
        let P : AgentState → Type 0 = λ s. IsRight (changed_at (without_caller c) k qs) s in
        subst P (sym (state_at-idle_if_ringing c as' a))
        (right-but qs (changed_at (without_caller c) k qs) c None (freed_state c (state_at as' a)) (length-changed_at (without_caller c) k qs)
        (λ d. waits_in-left qs c k d (good.waits_once c) waits) (rings_for-freed c (state_at as' a))
        (talks_with-freed c c (state_at as' a) ∙ right-untalked qs c k (state_at as' a) waits (good.rings_right a))
        (right-freed qs c (state_at as' a) (good.rings_right a)));
    talks_once = λ a b d first second. good.talks_once a b d (as_before d a first) (as_before d b second);
    members = members-idle_if_ringing c (changed_at (without_caller c) k qs) as'
        (members-changed (without_caller c) k qs (changed_at (without_caller c) k qs) as' (keeps-same (without_caller c) (λ q. refl)) refl good.members);
  }
    where
      as_before : (d a : ℕ) → talks_with d (state_at (all_freed c as') a) ≡ true → talks_with d (state_at as' a) ≡ true
      as_before d a talks = sym (talks_with-freed c d (state_at as' a)) ∙ ap (talks_with d) (sym (state_at-idle_if_ringing c as' a)) ∙ talks

  -- an agent enters a state that is right
  pub linked-set : (a : ℕ) (s : AgentState) → a < length as' → IsRight qs s
      → ((c : ℕ) → talks_with c s ≡ true → (b : ℕ) → talks_with c (state_at as' b) ≡ false) → AreLinked qs (with_state_at a s as')
  linked-set a s within right alone = record {
    waits_once = good.waits_once;
    rings_right = λ b. by_test (b == a)
        (λ (same : (b == a) ≡ true). let P : AgentState → Type 0 = λ t. IsRight qs t in
        subst P (sym (is_new b (eqb-true b a same))) right)
        (λ (other : (b == a) ≡ false). let P : AgentState → Type 0 = λ t. IsRight qs t in
        subst P (sym (is_old b other)) (good.rings_right b));
    talks_once = λ x y c first second. pairs x y c (x == a) (y == a) refl refl first second;
    members = members-set a s qs as' good.members;
  }
    where
      is_new : (b : ℕ) → b ≡ a → state_at (with_state_at a s as') b ≡ s
      is_new b is = ap (state_at (with_state_at a s as')) is ∙ state_at-same a s as' within

      is_old : (b : ℕ) → (b == a) ≡ false → state_at (with_state_at a s as') b ≡ state_at as' b
      is_old b other = state_at-other a s as' b (λ (is : b ≡ a). differ b a other is)
        where
          differ : (b a : ℕ) → (b == a) ≡ false → b ≡ a → ⊥
          differ b a other is = let yes : (b == a) ≡ true = eq-eqb b a is in cc

      pairs : (x y c : ℕ) (p q : Bool) → (x == a) ≡ p → (y == a) ≡ q → talks_with c (state_at (with_state_at a s as') x) ≡ true
          → talks_with c (state_at (with_state_at a s as') y) ≡ true → x ≡ y
      pairs x y c true true e f first second = eqb-true x a e ∙ sym (eqb-true y a f)
      pairs x y c true false e f first second =
          let talks : talks_with c s ≡ true = ap (talks_with c) (sym (is_new x (eqb-true x a e))) ∙ first in
          let silent : talks_with c (state_at as' y) ≡ false = alone c talks y in
          let loud : talks_with c (state_at as' y) ≡ true = ap (talks_with c) (sym (is_old y f)) ∙ second in
          absurd (cc)
      pairs x y c false true e f first second =
          let talks : talks_with c s ≡ true = ap (talks_with c) (sym (is_new y (eqb-true y a f))) ∙ second in
          let silent : talks_with c (state_at as' x) ≡ false = alone c talks x in
          let loud : talks_with c (state_at as' x) ≡ true = ap (talks_with c) (sym (is_old x e)) ∙ first in
          absurd (cc)
      pairs x y c false false e f first second =
          good.talks_once x y c (ap (talks_with c) (sym (is_old x e)) ∙ first) (ap (talks_with c) (sym (is_old y f)) ∙ second)

  -- the waiting lists are as before
  pub linked-same : (ps : List QueueOf) → length ps ≡ length qs → lines ps ≡ lines qs → AreMembers ps as' → AreLinked ps as'
  linked-same ps same kept members = record {
    waits_once = λ d. let e : times_waiting ps d ≡ times_waiting qs d = times-same ps qs d kept in omega (arith, e, good.waits_once d);
    rings_right = λ a. right-same qs ps (state_at as' a) same (λ d. waits_in-same ps qs d kept) (good.rings_right a);
    talks_once = good.talks_once;
    members = members;
  }

  -- the waiting lists are as before, and each agent is in its old state
  pub linked-mapped : (ps : List QueueOf) (bs : List Agent) → length ps ≡ length qs → lines ps ≡ lines qs
      → ((a : ℕ) → state_at bs a ≡ state_at as' a) → AreMembers ps bs → AreLinked ps bs
  linked-mapped ps bs same_length kept same members = record {
    waits_once = λ d. let e : times_waiting ps d ≡ times_waiting qs d = times-same ps qs d kept in omega (arith, e, good.waits_once d);
    rings_right = λ a.
        let P : AgentState → Type 0 = λ s. IsRight ps s in
        subst P (sym (same a)) (right-same qs ps (state_at as' a) same_length (λ d. waits_in-same ps qs d kept) (good.rings_right a));
    members = members;
    talks_once = λ a b c first second. good.talks_once a b c (ap (talks_with c) (sym (same a)) ∙ first) (ap (talks_with c) (sym (same b)) ∙ second);
  }

-- a busy agent is known
pub busy-within : (as' : List Agent) (a : ℕ) (s : AgentState) → state_at as' a ≡ s → is_idle s ≡ false → a < length as'
busy-within as' a s is busy = state_at-within as' a (ap is_idle is ∙ busy)

-- the channel for which an agent rings waits
pub ringing-waits : (qs : List QueueOf) (as' : List Agent) (a k c : ℕ) → AreLinked qs as' → state_at as' a ≡ Ringing k c → waits_in qs c ≡ Some k
ringing-waits qs as' a k c good is = let P : AgentState → Type 0 = λ s. IsRight qs s in let right : IsRight qs (Ringing k c) = subst P is (good.rings_right a) in right

-- the channel with which an agent talks does not
pub talking-right : (qs : List QueueOf) (as' : List Agent) (a k c : ℕ) → AreLinked qs as' → state_at as' a ≡ Talking k c
    → (waits_in qs c ≡ None) × (k < length qs)
talking-right qs as' a k c good is = let P : AgentState → Type 0 = λ s. IsRight qs s in let right : IsRight qs (Talking k c) = subst P is (good.rings_right a) in right
