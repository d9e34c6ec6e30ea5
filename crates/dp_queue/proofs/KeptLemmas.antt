-- Waiting lists, agents and seats stay consistent after each change.
use Rattle.std.proofs.Common.{◌≡◌, ℕ, zero, suc, ◌+◌, ◌<◌, ◌==◌, Bool, true, false, List, [], ◌∷◌, ◌++◌, Option, Some, None, refl, sym, length, ap, ◌∙◌, arith, if◌then◌else◌, subst, nat_lt, IsSome}
use Rattle.std.proofs.lemmas.List.{length-map}
use Rattle.std.proofs.lemmas.Option.{same_Some, none-some}
use Rattle.std.specs.Option.{option_map, unwrap_or}
use Rattle.dp_queue.specs.Agents.{agent_number, state_at, is_talking, rings_for, talks_with, with_state_at, freed_state, all_freed}
use Rattle.dp_conf.specs.Changes.{changed_at}
use Rattle.dp_queue.specs.Good.{IsRight, AreMembers, AreLinked}
use Rattle.dp_queue.specs.Joining.{waits_in, with_caller, without_caller}
use Rattle.dp_queue.specs.Members.{is_member_at, new_member, with_member, with_agent}
use Rattle.dp_queue.specs.Queues.{QueueOf}
use Rattle.dp_queue.specs.steps.Seats.{SeatsOf, rung_at, rung_count, seat_at, seat_in, AreSeated, AreFound, ReplacesSeat, ReplacesTalk}
use Rattle.dp_queue.specs.declared.agent.Agent.{Agent}
use Rattle.dp_queue.specs.declared.agent.AgentState.{AgentState}
use Rattle.dp_queue.specs.declared.agent.AgentState.TheVariants.{Idle, Ringing, Talking}
use Rattle.dp_queue.specs.declared.waiting_seat.WaitingSeat.{WaitingSeat}
use Rattle.dp_queue.proofs.AgentLemmas.{state_at-same, state_at-other, state_at-idle_if_ringing, rung-same, rung-less}
use Rattle.dp_queue.proofs.ChangeLemmas.{length-changed_at}
use Rattle.dp_queue.proofs.FoundLemmas.{found-same, found-replaced, talks-before}
use Rattle.dp_queue.proofs.GoodLemmas.{by_test, right-untalked, right-unrung, talks_with-freed, rung-freed, rung-nobody, is_talking-none, linked-joined, linked-left, linked-set, linked-same, linked-mapped, busy-within, ringing-waits, talking-right}
use Rattle.dp_queue.proofs.MemberLemmas.{members-set, members-added}
use Rattle.dp_queue.proofs.WaitingLemmas.{waits_in-joined, waits_in-left, waits_in-within, waits_in-same, lines, lines-changed_at}
use borrow.Author.Tests.{eqb-true, eq-eqb}

-- the seat of one channel is replaced, and those of the others stay right
pub seated-replaced : (seats new : SeatsOf) (qs ps : List QueueOf) (as' bs : List Agent) (c : ℕ) (s : Option WaitingSeat)
    → AreSeated seats qs as' → ReplacesSeat c s seats new → s ≡ option_map (seat_in bs c) (waits_in ps c)
    → ((d : ℕ) → (c == d) ≡ false → waits_in ps d ≡ waits_in qs d)
    → ((d : ℕ) → (c == d) ≡ false → rung_count bs d ≡ rung_count as' d) → AreSeated new ps bs
seated-replaced seats new qs ps as' bs c s seated put here waits rung d = by (c == d) refl
  where
    by : (b : Bool) → (c == d) ≡ b → seat_at new d ≡ option_map (seat_in bs d) (waits_in ps d)
    by true same =
        put d ∙ ap (λ (b : Bool). if b then s else seat_at seats d) same ∙ here
        ∙ ap (λ e. option_map (seat_in bs e) (waits_in ps e)) (eqb-true c d same)
    by false other =
        put d ∙ ap (λ (b : Bool). if b then s else seat_at seats d) other ∙ seated d
        ∙ (λ i. option_map (λ k. record { queue = k; rung = sym (rung d other) i }) (sym (waits d other) i))

-- no seat changes
pub seated-same : (seats new : SeatsOf) (qs ps : List QueueOf) (as' bs : List Agent)
    → AreSeated seats qs as' → ((d : ℕ) → seat_at new d ≡ seat_at seats d)
    → ((d : ℕ) → waits_in ps d ≡ waits_in qs d) → ((d : ℕ) → rung_count bs d ≡ rung_count as' d) → AreSeated new ps bs
seated-same seats new qs ps as' bs seated kept waits rung d =
    kept d ∙ seated d ∙ (λ i. option_map (λ k. record { queue = k; rung = sym (rung d) i }) (sym (waits d) i))

-- the waiting lists and the agents are linked, and the seats belong to them
abbrev pub AreKept : SeatsOf → List QueueOf → List Agent → Type 0
AreKept seats qs as' = AreLinked qs as' × AreSeated seats qs as' × AreFound seats as'

-- the same for equal lists
pub kept-at : (seats : SeatsOf) (qs ps : List QueueOf) (as' bs : List Agent) → ps ≡ qs → bs ≡ as' → AreKept seats qs as' → AreKept seats ps bs
kept-at seats qs ps as' bs same_queues same_agents kept =
    let P : List QueueOf → Type 0 = λ x. AreKept seats x bs in
    let Q : List Agent → Type 0 = λ x. AreKept seats qs x in
    subst P (sym same_queues) (subst Q (sym same_agents) kept)

-- a channel with a seat waits in its queue
pub seated-waits : (seats : SeatsOf) (qs : List QueueOf) (as' : List Agent) (c : ℕ) (s : WaitingSeat) → AreSeated seats qs as'
    → seat_at seats c ≡ Some s → waits_in qs c ≡ Some s.queue
seated-waits seats qs as' c s seated here = by (waits_in qs c) (sym (seated c) ∙ here)
  where
    by : (o : Option ℕ) → option_map (seat_in as' c) o ≡ Some s → o ≡ Some s.queue
    by None e = absurd (none-some s e)
    by (Some k) e = ap (λ (t : WaitingSeat). Some t.queue) (same_Some (seat_in as' c k) s e)

-- the seat has the number of agents that ring for it
pub seated-rung : (seats : SeatsOf) (qs : List QueueOf) (as' : List Agent) (c : ℕ) (s : WaitingSeat) → AreSeated seats qs as'
    → seat_at seats c ≡ Some s → s.rung ≡ rung_count as' c
seated-rung seats qs as' c s seated here = by (waits_in qs c) (sym (seated c) ∙ here)
  where
    by : (o : Option ℕ) → option_map (seat_in as' c) o ≡ Some s → s.rung ≡ rung_count as' c
    by None e = absurd (none-some s e)
    by (Some k) e = ap (λ (t : WaitingSeat). t.rung) (sym (same_Some (seat_in as' c k) s e))

-- a waiting channel has a seat
pub seated-some : (seats : SeatsOf) (qs : List QueueOf) (as' : List Agent) (c k : ℕ) → AreSeated seats qs as'
    → waits_in qs c ≡ Some k → IsSome (seat_at seats c)
seated-some seats qs as' c k seated waits =
    let here : seat_at seats c ≡ Some (seat_in as' c k) = seated c ∙ ap (option_map (seat_in as' c)) waits in
    subst IsSome (sym here) refl

-- numbers of another channel
other_waits : (b : Bool) (o p : Option ℕ) → b ≡ false → (if b then o else p) ≡ p
other_waits true o p e = absurd (cc)
other_waits false o p e = refl

same_waits : (b : Bool) (o p : Option ℕ) → b ≡ true → (if b then o else p) ≡ o
same_waits true o p e = refl
same_waits false o p e = absurd (cc)

self_eq : (n : ℕ) → (n == n) ≡ true
self_eq n = eq-eqb n n refl

module _ (seats new : SeatsOf) (qs ps : List QueueOf) (as' : List Agent) (kept : AreKept seats qs as') where
  -- a channel joins
  pub kept-joined : (c k : ℕ) → waits_in qs c ≡ None → is_talking as' c ≡ false → k < length qs → ps ≡ changed_at (with_caller c) k qs
      → ReplacesSeat c (Some (record { queue = k; rung = 0 })) seats new → ReplacesTalk c None seats new → AreKept new ps as'
  kept-joined c k nowhere silent within joined put talk = kept-at new (changed_at (with_caller c) k qs) ps as' as' joined refl (
    linked-joined qs as' kept.0 c k nowhere silent within,
    seated-replaced seats new qs (changed_at (with_caller c) k qs) as' as' c (Some (record { queue = k; rung = 0 })) kept.1 put here
        (λ d other. waits_in-joined qs c k d within nowhere ∙ other_waits (c == d) (Some k) (waits_in qs d) other)
        (λ d other. refl),
    found-replaced seats new as' as' c None talk (λ a talks. absurd (no_talk a talks)) (λ a d other talks. talks) kept.2,
  )
    where
      no_talk : (a : ℕ) → talks_with c (state_at as' a) ≡ true → ⊥
      no_talk a talks = let none : talks_with c (state_at as' a) ≡ false = is_talking-none as' c silent a in cc

      unrung : rung_count as' c ≡ 0
      unrung = rung-nobody as' c (λ a. right-unrung qs c (state_at as' a) nowhere (kept.0.rings_right a))

      here : Some (record { queue = k; rung = 0 }) ≡ option_map (seat_in as' c) (waits_in (changed_at (with_caller c) k qs) c)
      here = (λ i. Some (record { queue = k; rung = sym unrung i }))
          ∙ ap (option_map (seat_in as' c)) (sym (waits_in-joined qs c k c within nowhere ∙ same_waits (c == c) (Some k) (waits_in qs c) (self_eq c)))

  -- the state of each agent before a channel left
  talks-left : (c d : ℕ) (bs : List Agent) (a : ℕ) → bs ≡ all_freed c as' → talks_with d (state_at bs a) ≡ true → talks_with d (state_at as' a) ≡ true
  talks-left c d bs a freed talks =
      sym (talks_with-freed c d (state_at as' a)) ∙ ap (talks_with d) (sym (state_at-idle_if_ringing c as' a)) ∙ ap (λ x. talks_with d (state_at x a)) (sym freed) ∙ talks

  -- no agent talks with a waiting channel
  untalked : (c k a : ℕ) → waits_in qs c ≡ Some k → talks_with c (state_at as' a) ≡ true → ⊥
  untalked c k a waits talks = let none : talks_with c (state_at as' a) ≡ false = right-untalked qs c k (state_at as' a) waits (kept.0.rings_right a) in cc

  -- a channel leaves
  linked-gone : (c k : ℕ) (bs : List Agent) → waits_in qs c ≡ Some k → ps ≡ changed_at (without_caller c) k qs → bs ≡ all_freed c as'
      → AreLinked ps bs
  linked-gone c k bs waits left freed =
      let P : List QueueOf → Type 0 = λ x. AreLinked x bs in
      let Q : List Agent → Type 0 = λ x. AreLinked (changed_at (without_caller c) k qs) x in
      subst P (sym left) (subst Q (sym freed) (linked-left qs as' kept.0 c k waits))

  seated-gone : (c k : ℕ) (bs : List Agent) → waits_in qs c ≡ Some k → ps ≡ changed_at (without_caller c) k qs → bs ≡ all_freed c as'
      → ReplacesSeat c None seats new → AreSeated new ps bs
  seated-gone c k bs waits left freed put = seated-replaced seats new qs ps as' bs c None kept.1 put
      (ap (option_map (seat_in bs c)) (sym (gone c ∙ same_waits (c == c) None (waits_in qs c) (self_eq c))))
      (λ d other. gone d ∙ other_waits (c == d) None (waits_in qs d) other)
      (λ d other. ap (λ x. rung_count x d) freed ∙ rung-freed c d as' other)
    where
      gone : (d : ℕ) → waits_in ps d ≡ (if c == d then None else waits_in qs d)
      gone d = ap (λ x. waits_in x d) left ∙ waits_in-left qs c k d (kept.0.waits_once c) waits

  pub kept-left : (c k : ℕ) (bs : List Agent) → waits_in qs c ≡ Some k → ps ≡ changed_at (without_caller c) k qs → bs ≡ all_freed c as'
      → ReplacesSeat c None seats new → ReplacesTalk c None seats new → AreKept new ps bs
  kept-left c k bs waits left freed put talk = (
    linked-gone c k bs waits left freed,
    seated-gone c k bs waits left freed put,
    found-replaced seats new as' bs c None talk (λ a talks. absurd (untalked c k a waits (talks-left c c bs a freed talks)))
        (λ a d other talks. talks-left c d bs a freed talks) kept.2,
  )

  -- the waiting lists do not change
  pub kept-same : length ps ≡ length qs → lines ps ≡ lines qs → AreMembers ps as' → AreKept seats ps as'
  kept-same same kept_lines members = (
    linked-same qs as' kept.0 ps same kept_lines members,
    seated-same seats seats qs ps as' as' kept.1 (λ d. refl) (λ d. waits_in-same ps qs d kept_lines) (λ d. refl),
    kept.2,
  )

-- the seat has the number of agents that ring for the channel
pub ringing-rung : (seats : SeatsOf) (qs : List QueueOf) (as' : List Agent) (a k c : ℕ) → AreKept seats qs as' → state_at as' a ≡ Ringing k c
    → rung_at seats c ≡ rung_count as' c
ringing-rung seats qs as' a k c kept is =
    ap (λ (o : Option WaitingSeat). unwrap_or (option_map (λ seat. seat.rung) o) 0) (kept.1 c ∙ ap (option_map (seat_in as' c)) (ringing-waits qs as' a k c kept.0 is))

-- if an agent stops ringing, the number is one less
pub ringing-less : (seats : SeatsOf) (qs : List QueueOf) (as' : List Agent) (a k c rung : ℕ) (s : AgentState) → AreKept seats qs as'
    → state_at as' a ≡ Ringing k c → rung ≡ rung_at seats c → rings_for c s ≡ false → rung ≡ suc (rung_count (with_state_at a s as') c)
ringing-less seats qs as' a k c rung s kept is counted silent =
    counted ∙ ringing-rung seats qs as' a k c kept is ∙ rung-less a s as' c silent (ap (rings_for c) is ∙ self_eq c)

-- an agent answers
pub kept-answered : (seats new : SeatsOf) (qs ps : List QueueOf) (as' bs cs : List Agent) (a c k : ℕ) → AreKept seats qs as'
    → state_at as' a ≡ Ringing k c → ps ≡ changed_at (without_caller c) k qs → bs ≡ all_freed c as' → cs ≡ with_state_at a (Talking k c) bs
    → ReplacesSeat c None seats new → ReplacesTalk c (Some a) seats new → AreKept new ps cs
kept-answered seats new qs ps as' bs cs a c k kept is left freed talks put talk = kept-at new ps ps (with_state_at a (Talking k c) bs) cs refl talks (
  linked-set ps bs (linked-gone seats new qs ps as' kept c k bs waits left freed) a (Talking k c) within right alone,
  seated-same new new ps ps bs (with_state_at a (Talking k c) bs) (seated-gone seats new qs ps as' kept c k bs waits left freed put) (λ d. refl) (λ d. refl)
      (λ d. rung-same a (Talking k c) bs d (sym (ap (rings_for d) is_freed ∙ idle_rings d))),
  found-replaced seats new as' (with_state_at a (Talking k c) bs) c (Some a) talk here
      (λ b d other talks. talks-left seats new qs ps as' kept c d bs b freed (talks-before a (Talking k c) bs d b other talks)) kept.2,
)
  where
    waits : waits_in qs c ≡ Some k
    waits = ringing-waits qs as' a k c kept.0 is

    same_length : length bs ≡ length as'
    same_length = ap length freed ∙ length-map as' _

    within : a < length bs
    within = let known : a < length as' = busy-within as' a (Ringing k c) is refl in omega (arith, known, same_length)

    right : IsRight ps (Talking k c)
    right = (
      ap (λ x. waits_in x c) left ∙ waits_in-left qs c k c (kept.0.waits_once c) waits ∙ same_waits (c == c) None (waits_in qs c) (self_eq c),
      omega (arith, waits_in-within qs c k waits, ap length left, length-changed_at (without_caller c) k qs),
    )

    is_freed : state_at bs a ≡ freed_state c (Ringing k c)
    is_freed = ap (λ x. state_at x a) freed ∙ state_at-idle_if_ringing c as' a ∙ ap (freed_state c) is

    idle_rings : (d : ℕ) → rings_for d (freed_state c (Ringing k c)) ≡ false
    idle_rings d = ap (λ (b : Bool). rings_for d (if b then Idle else Ringing k c)) (self_eq c)

    alone : (d : ℕ) → (c == d) ≡ true → (b : ℕ) → talks_with d (state_at bs b) ≡ false
    alone d same b =
        ap (talks_with d) (ap (λ x. state_at x b) freed ∙ state_at-idle_if_ringing c as' b) ∙ talks_with-freed c d (state_at as' b)
        ∙ right-untalked qs d k (state_at as' b) (ap (waits_in qs) (sym (eqb-true c d same)) ∙ waits) (kept.0.rings_right b)

    here : (b : ℕ) → talks_with c (state_at (with_state_at a (Talking k c) bs) b) ≡ true → Some a ≡ Some b
    here b talks = by_test (b == a)
        (λ (same : (b == a) ≡ true). ap (λ (n : ℕ). Some n) (sym (eqb-true b a same)))
        (λ (other : (b == a) ≡ false). absurd (nobody b other (ap (talks_with c) (sym (state_at-other a (Talking k c) bs b (differ b other))) ∙ talks)))
      where
        differ : (b : ℕ) → (b == a) ≡ false → b ≡ a → ⊥
        differ b other same = let yes : (b == a) ≡ true = eq-eqb b a same in cc

        nobody : (b : ℕ) → (b == a) ≡ false → talks_with c (state_at bs b) ≡ true → ⊥
        nobody b other loud = let silent : talks_with c (state_at bs b) ≡ false = alone c (self_eq c) b in cc

-- an agent declines
pub kept-declined : (seats new : SeatsOf) (qs : List QueueOf) (as' bs : List Agent) (a c k rung : ℕ) → AreKept seats qs as'
    → state_at as' a ≡ Ringing k c → bs ≡ with_state_at a Idle as' → rung ≡ rung_count bs c
    → ReplacesSeat c (Some (record { queue = k; rung = rung })) seats new → ReplacesTalk c None seats new → AreKept new qs bs
kept-declined seats new qs as' bs a c k rung kept is idle marked put talk = (
  (let P : List Agent → Type 0 = λ x. AreLinked qs x in subst P (sym idle)
      (linked-set qs as' kept.0 a Idle (busy-within as' a (Ringing k c) is refl) tt (λ d talks. absurd (cc)))),
  seated-replaced seats new qs qs as' bs c (Some (record { queue = k; rung = rung })) kept.1 put
      ((λ i. Some (record { queue = k; rung = marked i })) ∙ ap (option_map (seat_in bs c)) (sym (ringing-waits qs as' a k c kept.0 is)))
      (λ d other. refl)
      (λ d other. ap (λ x. rung_count x d) idle ∙ rung-same a Idle as' d (sym (ap (rings_for d) is ∙ other))),
  found-replaced seats new as' bs c None talk
      (λ b talks. absurd (untalked seats new qs qs as' kept c k b (ringing-waits qs as' a k c kept.0 is) (before b c talks)))
      (λ b d other talks. before b d talks) kept.2,
)
  where
    before : (b d : ℕ) → talks_with d (state_at bs b) ≡ true → talks_with d (state_at as' b) ≡ true
    before b d talks = talks-before a Idle as' d b refl (ap (λ x. talks_with d (state_at x b)) (sym idle) ∙ talks)

-- a talk ends
pub kept-ended : (seats new : SeatsOf) (qs ps : List QueueOf) (as' bs : List Agent) (a c k : ℕ) → AreKept seats qs as'
    → state_at as' a ≡ Talking k c → bs ≡ with_state_at a Idle as' → length ps ≡ length qs → lines ps ≡ lines qs → AreMembers ps as'
    → ReplacesSeat c None seats new → ReplacesTalk c None seats new → AreKept new ps bs
kept-ended seats new qs ps as' bs a c k kept is idle same kept_lines members put talk = kept-at new ps ps (with_state_at a Idle as') bs refl idle
    (kept-same new new qs ps (with_state_at a Idle as') (
      linked-set qs as' kept.0 a Idle within tt (λ d talks. absurd (cc)),
      seated-replaced seats new qs qs as' (with_state_at a Idle as') c None kept.1 put
          (ap (option_map (seat_in (with_state_at a Idle as') c)) (sym (talking-right qs as' a k c kept.0 is).0))
          (λ d other. refl) (λ d other. rung-same a Idle as' d (sym (ap (rings_for d) is))),
      found-replaced seats new as' (with_state_at a Idle as') c None talk (λ b talks. absurd (nobody b talks))
          (λ b d other talks. talks-before a Idle as' d b refl talks) kept.2,
    )
    same kept_lines (members-set a Idle ps as' members))
  where
    within : a < length as'
    within = busy-within as' a (Talking k c) is refl

    nobody : (b : ℕ) → talks_with c (state_at (with_state_at a Idle as') b) ≡ true → ⊥
    nobody b talks =
        let one : b ≡ a = kept.0.talks_once b a c (talks-before a Idle as' c b refl talks) (ap (talks_with c) is ∙ self_eq c) in
        let silent : talks_with c (state_at (with_state_at a Idle as') b) ≡ false =
        ap (λ n. talks_with c (state_at (with_state_at a Idle as') n)) one ∙ ap (talks_with c) (state_at-same a Idle as' within) in cc

-- a new agent is idle, just like an unknown one
state_at-new : (name : List ℕ) (xs : List Agent) (a : ℕ) → state_at (xs ++ record { name = name; state = Idle } ∷ []) a ≡ state_at xs a
state_at-new name [] zero = refl
state_at-new name [] (suc a) = refl
state_at-new name (x ∷ xs) zero = refl
state_at-new name (x ∷ xs) (suc a) = state_at-new name xs a

rung-new : (name : List ℕ) (xs : List Agent) (d : ℕ) → rung_count (xs ++ record { name = name; state = Idle } ∷ []) d ≡ rung_count xs d
rung-new name [] d = refl
rung-new name (x ∷ xs) d = ap (λ (n : ℕ). (if rings_for d x.state then 1 else 0) + n) (rung-new name xs d)

-- the states of agents do not change when an agent becomes known
state_at-known : (name : List ℕ) (xs : List Agent) (a : ℕ) → state_at (with_agent xs name) a ≡ state_at xs a
state_at-known name xs a = by (nat_lt (agent_number xs name) (length xs))
  where
    by : (b : Bool) → state_at (if b then xs else xs ++ record { name = name; state = Idle } ∷ []) a ≡ state_at xs a
    by true = refl
    by false = state_at-new name xs a

rung-known : (name : List ℕ) (xs : List Agent) (d : ℕ) → rung_count (with_agent xs name) d ≡ rung_count xs d
rung-known name xs d = by (nat_lt (agent_number xs name) (length xs))
  where
    by : (b : Bool) → rung_count (if b then xs else xs ++ record { name = name; state = Idle } ∷ []) d ≡ rung_count xs d
    by true = refl
    by false = rung-new name xs d

-- an agent that is not a member of a queue becomes its last one
pub kept-added : (seats : SeatsOf) (qs ps : List QueueOf) (as' bs : List Agent) (number : ℕ) (name : List ℕ) (penalty : ℕ)
    (is_dynamic : Bool) → AreKept seats qs as' → is_member_at qs number (agent_number as' name) ≡ false
    → ps ≡ changed_at (with_member (new_member (agent_number as' name) penalty is_dynamic)) number qs → bs ≡ with_agent as' name
    → AreKept seats ps bs
kept-added seats qs ps as' bs number name penalty is_dynamic kept absent added known = (
  linked-mapped qs as' kept.0 ps bs
      (ap length added ∙ length-changed_at change number qs) kept_lines
      (λ a. ap (λ x. state_at x a) known ∙ state_at-known name as' a)
      (members-added qs ps as' bs number name penalty is_dynamic absent added known kept.0.members),
  seated-same seats seats qs ps as' bs kept.1 (λ d. refl) (λ d. waits_in-same ps qs d kept_lines)
      (λ d. ap (λ x. rung_count x d) known ∙ rung-known name as' d),
  found-same seats seats as' bs (λ d. refl)
      (λ a d talks. ap (talks_with d) (sym (ap (λ x. state_at x a) known ∙ state_at-known name as' a)) ∙ talks) kept.2,
)
  where
    change : QueueOf → QueueOf
    change = with_member (new_member (agent_number as' name) penalty is_dynamic)

    kept_lines : lines ps ≡ lines qs
    kept_lines = ap lines added ∙ lines-changed_at change number qs (λ q. refl)
