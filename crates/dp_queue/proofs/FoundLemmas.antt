-- The agent that talks with a channel is found from the channel's seat.
use Rattle.std.proofs.Common.{◌≡◌, ℕ, zero, suc, ◌==◌, Bool, true, false, List, [], ◌∷◌, Option, Some, None, refl, ap, ◌∙◌, arith, if◌then◌else◌}
use Rattle.std.specs.List.{position}
use Rattle.std.specs.Option.{option_map}
use Rattle.dp_queue.specs.Agents.{state_at, talks_with, with_state_at}
use Rattle.dp_queue.specs.steps.Seats.{SeatsOf, talk_at, AreFound, ReplacesTalk}
use Rattle.dp_queue.specs.declared.agent.Agent.{Agent}
use Rattle.dp_queue.specs.declared.agent.AgentState.{AgentState}
use Rattle.dp_queue.proofs.GoodLemmas.{by_test}
use Rattle.dp_queue.proofs.PlacesLemmas.{position-cons}
use borrow.Author.Tests.{eqb-true}

-- no new channel talks, and the seats are as before
pub found-same : (seats new : SeatsOf) (as' bs : List Agent) → ((d : ℕ) → talk_at new d ≡ talk_at seats d)
    → ((a d : ℕ) → talks_with d (state_at bs a) ≡ true → talks_with d (state_at as' a) ≡ true) → AreFound seats as' → AreFound new bs
found-same seats new as' bs kept before found a d talks = kept d ∙ found a d (before a d talks)

-- the same except for one channel
pub found-replaced : (seats new : SeatsOf) (as' bs : List Agent) (c : ℕ) (o : Option ℕ) → ReplacesTalk c o seats new
    → ((a : ℕ) → talks_with c (state_at bs a) ≡ true → o ≡ Some a)
    → ((a d : ℕ) → (c == d) ≡ false → talks_with d (state_at bs a) ≡ true → talks_with d (state_at as' a) ≡ true) → AreFound seats as' → AreFound new bs
found-replaced seats new as' bs c o put here before found a d talks = by_test (c == d)
    (λ (same : (c == d) ≡ true). put d ∙ ap (λ (b : Bool). if b then o else talk_at seats d) same
    ∙ here a (ap (λ x. talks_with x (state_at bs a)) (eqb-true c d same) ∙ talks))
    (λ (other : (c == d) ≡ false). put d ∙ ap (λ (b : Bool). if b then o else talk_at seats d) other ∙ found a d (before a d other talks))

-- an agent enters a state in which it does not talk with a channel
pub talks-before : (n : ℕ) (s : AgentState) (agents : List Agent) (d b : ℕ) → talks_with d s ≡ false
    → talks_with d (state_at (with_state_at n s agents) b) ≡ true → talks_with d (state_at agents b) ≡ true
talks-before n s [] d b silent talks = talks
talks-before zero s (a ∷ as') d zero silent talks = absurd (cc)
talks-before zero s (a ∷ as') d (suc b) silent talks = talks
talks-before (suc n) s (a ∷ as') d zero silent talks = talks
talks-before (suc n) s (a ∷ as') d (suc b) silent talks = talks-before n s as' d b silent talks

-- the only agent that talks with a channel is the first
pub position-talks : (agents : List Agent) (c a : ℕ) → talks_with c (state_at agents a) ≡ true
    → ((b : ℕ) → talks_with c (state_at agents b) ≡ true → b ≡ a) → position (λ agent. talks_with c agent.state) agents ≡ Some a
position-talks [] c a talks only = absurd (cc)
position-talks (x ∷ xs) c zero talks only =
    position-cons (λ (agent : Agent). talks_with c agent.state) x xs
    ∙ ap (λ (b : Bool). if b then Some 0 else option_map suc (position (λ (agent : Agent). talks_with c agent.state) xs)) talks
position-talks (x ∷ xs) c (suc a) talks only =
    position-cons (λ (agent : Agent). talks_with c agent.state) x xs
    ∙ by (talks_with c x.state) (only 0) (position-talks xs c a talks (λ b is. omega (arith, only (suc b) is)))
  where
    by : (b : Bool) → (b ≡ true → 0 ≡ suc a) → position (λ (agent : Agent). talks_with c agent.state) xs ≡ Some a
        → (if b then Some 0 else option_map suc (position (λ (agent : Agent). talks_with c agent.state) xs)) ≡ Some (suc a)
    by true first rest = absurd (omega (arith, first refl))
    by false first rest = ap (option_map suc) rest

-- and there is none if no agent talks with it
pub position-silent : (agents : List Agent) (c : ℕ) → ((b : ℕ) → talks_with c (state_at agents b) ≡ true → ⊥)
    → position (λ agent. talks_with c agent.state) agents ≡ None
position-silent [] c silent = refl
position-silent (x ∷ xs) c silent =
    position-cons (λ (agent : Agent). talks_with c agent.state) x xs
    ∙ by (talks_with c x.state) (silent 0) (position-silent xs c (λ b is. silent (suc b) is))
  where
    by : (b : Bool) → (b ≡ true → ⊥) → position (λ (agent : Agent). talks_with c agent.state) xs ≡ None
        → (if b then Some 0 else option_map suc (position (λ (agent : Agent). talks_with c agent.state) xs)) ≡ None
    by true first rest = absurd (first refl)
    by false first rest = ap (option_map suc) rest
