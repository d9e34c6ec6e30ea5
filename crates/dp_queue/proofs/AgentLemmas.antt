-- The agents after their states change.
use Rattle.std.proofs.Common.{◌≡◌, ℕ, zero, suc, ◌+◌, ◌<◌, ◌==◌, Bool, true, false, not, ◌||◌, if◌then◌else◌, List, [], ◌∷◌, Option, refl, sym, length, ap, ◌∙◌, arith}
use Rattle.std.specs.Option.{option_map, unwrap_or}
use Rattle.dp_queue.specs.Agents.{state_at, rings_for, is_idle, is_rung, with_state, with_state_at, idle_if_ringing, freed_state, all_freed}
use Rattle.dp_queue.specs.steps.Seats.{rung_count}
use Rattle.dp_queue.specs.declared.agent.Agent.{Agent}
use Rattle.dp_queue.specs.declared.agent.AgentState.{AgentState}
use Rattle.dp_queue.specs.declared.agent.AgentState.TheVariants.{Idle, Talking}
use Rattle.dp_queue.proofs.ChangeLemmas.{slice_get-changed_other}

-- the agent with the number is in the new state
pub state_at-same : (n : ℕ) (s : AgentState) (agents : List Agent) → n < length agents → state_at (with_state_at n s agents) n ≡ s
state_at-same n s [] within = absurd (omega (arith, within))
state_at-same zero s (a ∷ as') within = refl
state_at-same (suc n) s (a ∷ as') within = state_at-same n s as' (omega (arith, within))

-- the others are as before
pub state_at-other : (n : ℕ) (s : AgentState) (agents : List Agent) (k : ℕ) → (k ≡ n → ⊥)
    → state_at (with_state_at n s agents) k ≡ state_at agents k
state_at-other n s agents k other = ap (λ (o : Option Agent). unwrap_or (option_map (λ agent. agent.state) o) Idle) (slice_get-changed_other (with_state s) n k agents other)

-- each agent's state after a channel no longer waits
pub state_at-idle_if_ringing : (c : ℕ) (agents : List Agent) (k : ℕ) → state_at (all_freed c agents) k ≡ freed_state c (state_at agents k)
state_at-idle_if_ringing c [] k = refl
state_at-idle_if_ringing c (a ∷ as') zero = refl
state_at-idle_if_ringing c (a ∷ as') (suc k) = state_at-idle_if_ringing c as' k

-- an unknown agent is idle
pub state_at-within : (agents : List Agent) (k : ℕ) → is_idle (state_at agents k) ≡ false → k < length agents
state_at-within [] k busy = absurd (cc)
state_at-within (a ∷ as') zero busy = omega arith
state_at-within (a ∷ as') (suc k) busy = let rest : k < length as' = state_at-within as' k busy in omega arith

-- a change that does not affect ringing for the channel keeps the number of agents that ring for it
pub rung-same : (n : ℕ) (s : AgentState) (agents : List Agent) (c : ℕ) → rings_for c s ≡ rings_for c (state_at agents n)
    → rung_count (with_state_at n s agents) c ≡ rung_count agents c
rung-same n s [] c same = refl
rung-same zero s (a ∷ as') c same = ap (λ (b : Bool). (if b then 1 else 0) + rung_count as' c) same
rung-same (suc n) s (a ∷ as') c same = ap (λ (k : ℕ). (if rings_for c a.state then 1 else 0) + k) (rung-same n s as' c same)

-- an agent that begins to ring for it adds one
pub rung-more : (n : ℕ) (s : AgentState) (agents : List Agent) (c : ℕ) → n < length agents → rings_for c s ≡ true
    → rings_for c (state_at agents n) ≡ false → rung_count (with_state_at n s agents) c ≡ suc (rung_count agents c)
rung-more n s [] c within rings silent = absurd (omega (arith, within))
rung-more zero s (a ∷ as') c within rings silent =
    let one : ◌≡◌ {A = ℕ} (if rings_for c s then 1 else 0) 1 = ap (λ (b : Bool). if b then 1 else 0) rings in
    let none : ◌≡◌ {A = ℕ} (if rings_for c a.state then 1 else 0) 0 = ap (λ (b : Bool). if b then 1 else 0) silent in
    omega (arith, one, none)
rung-more (suc n) s (a ∷ as') c within rings silent = omega (arith, rung-more n s as' c (omega (arith, within)) rings silent)

-- an agent that stops ringing for it subtracts one
pub rung-less : (n : ℕ) (s : AgentState) (agents : List Agent) (c : ℕ) → rings_for c s ≡ false → rings_for c (state_at agents n) ≡ true
    → rung_count agents c ≡ suc (rung_count (with_state_at n s agents) c)
rung-less n s [] c silent rings = absurd (cc)
rung-less zero s (a ∷ as') c silent rings =
    let none : ◌≡◌ {A = ℕ} (if rings_for c s then 1 else 0) 0 = ap (λ (b : Bool). if b then 1 else 0) silent in
    let one : ◌≡◌ {A = ℕ} (if rings_for c a.state then 1 else 0) 1 = ap (λ (b : Bool). if b then 1 else 0) rings in
    omega (arith, one, none)
rung-less (suc n) s (a ∷ as') c silent rings = omega (arith, rung-less n s as' c silent rings)

-- an agent that rings for it and becomes idle would become idle with the others
pub all_freed-idle : (c n : ℕ) (agents : List Agent) → rings_for c (state_at agents n) ≡ true
    → all_freed c (with_state_at n Idle agents) ≡ all_freed c agents
all_freed-idle c n [] rings = refl
all_freed-idle c zero (a ∷ as') rings = ap (λ (b : Bool). with_state (if b then Idle else a.state) a ∷ all_freed c as') (sym rings)
all_freed-idle c (suc n) (a ∷ as') rings = ap (λ (t : List Agent). idle_if_ringing c a ∷ t) (all_freed-idle c n as' rings)

-- a talking agent keeps its state when the others become idle
pub all_freed-talking : (c n k d : ℕ) (agents : List Agent)
    → all_freed c (with_state_at n (Talking k d) agents) ≡ with_state_at n (Talking k d) (all_freed c agents)
all_freed-talking c n k d [] = refl
all_freed-talking c zero k d (a ∷ as') = refl
all_freed-talking c (suc n) k d (a ∷ as') = ap (λ (t : List Agent). idle_if_ringing c a ∷ t) (all_freed-talking c n k d as')

-- if none rings for the channel, none becomes idle
pub all_freed-unrung : (c : ℕ) (agents : List Agent) → rung_count agents c ≡ 0 → all_freed c agents ≡ agents
all_freed-unrung c [] none = refl
all_freed-unrung c (a ∷ as') none = by (rings_for c a.state) refl none (all_freed-unrung c as')
  where
    by : (b : Bool) → rings_for c a.state ≡ b → (if b then 1 else 0) + rung_count as' c ≡ 0 → (rung_count as' c ≡ 0 → all_freed c as' ≡ as')
        → all_freed c (a ∷ as') ≡ a ∷ as'
    by true rings none rest = absurd (omega (arith, none))
    by false silent none rest = (λ i. with_state (if silent i then Idle else a.state) a ∷ rest (omega (arith, none)) i)

-- some agent rings for the channel exactly if the number is not zero
pub rung-none : (agents : List Agent) (c : ℕ) → (rung_count agents c == 0) ≡ not (is_rung agents c)
rung-none [] c = refl
rung-none (a ∷ as') c = by (rings_for c a.state) (rung-none as' c)
  where
    by : (b : Bool) → (rung_count as' c == 0) ≡ not (is_rung as' c) → ((if b then 1 else 0) + rung_count as' c == 0) ≡ not (b || is_rung as' c)
    by true rest = ltb-apart (rung_count as' c)
      where
        ltb-apart : (n : ℕ) → (1 + n == 0) ≡ false
        ltb-apart n = grind arith
    by false rest = ap (λ (n : ℕ). n == 0) zero_more ∙ rest
      where
        zero_more : 0 + rung_count as' c ≡ rung_count as' c
        zero_more = omega arith
