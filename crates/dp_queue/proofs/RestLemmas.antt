-- At rest no call waits and each agent is idle; the queues of a file are at rest.
use Rattle.std.proofs.Common.{◌≡◌, ℕ, zero, suc, ◌<◌, ◌==◌, Bool, true, false, List, [], ◌∷◌, ◌++◌, Option, Some, None, Result, Ok, Err, refl, ap, ◌∙◌, sym, length, arith, if◌then◌else◌, subst, IfOk, IfSome, nat_lt, nat_eq, codes}
use Rattle.std.proofs.lemmas.List.Elements.{All-push, All-tail}
use Rattle.std.specs.HashMap.{IsEmpty}
use Rattle.std.specs.List.{All, list_any}
use Rattle.std.specs.Map.{lookup}
use Rattle.std.specs.Option.{option_map}
use Rattle.dp_conf.specs.Answers.{◌>>=◌}
use Rattle.dp_conf.specs.Levels.{arguments_of}
use Rattle.dp_conf.specs.Lines.{LineOf, Header, Pair}
use Rattle.dp_conf.specs.Words.{same_word}
use Rattle.dp_queue.specs.Agents.{agent_number, state_at, talks_with}
use Rattle.dp_queue.specs.Faults.{at_line}
use Rattle.dp_queue.specs.File.{FileOf, nothing_read, begun_by, after_header, penalty_in, argument_at, is_passed_over, with_named, with_member_line, with_queue_setting, with_key, with_pair, after_pair, after_line, after_lines}
use Rattle.dp_queue.specs.Good.{IsRight, AreMembers, AreLinked}
use Rattle.dp_queue.specs.Joining.{waits_in, times_waiting}
use Rattle.dp_queue.specs.Keys.{setting_of}
use Rattle.dp_queue.specs.Members.{with_agent, with_member_at}
use Rattle.dp_queue.specs.Queues.{QueueOf, QueuesOf, queue_number}
use Rattle.dp_queue.specs.Rest.{IsAtRest}
use Rattle.dp_queue.specs.steps.Seats.{SeatsOf, AreFound, AreSeated, seat_of}
use Rattle.dp_queue.specs.declared.agent.Agent.{Agent}
use Rattle.dp_queue.specs.declared.agent.AgentState.{AgentState}
use Rattle.dp_queue.specs.declared.agent.AgentState.TheVariants.{Idle}
use Rattle.dp_queue.specs.declared.fault.QueueFault.{QueueFault}
use Rattle.dp_queue.specs.declared.fault.QueueKind.{QueueKind}
use Rattle.dp_queue.proofs.ChangeLemmas.{all-changed_at}
use Rattle.dp_queue.proofs.WaitingLemmas.{times-none}

-- a number below one count is below an equal count
pub within-same : (o : Option ℕ) (m n : ℕ) → n ≡ m → IfSome o (λ number. number < m) → IfSome o (λ number. number < n)
within-same None m n same within = tt
within-same (Some number) m n same within = omega (arith, same, within)

-- no call waits
pub waits_in-at_rest : (qs : List QueueOf) → All (λ queue. queue.waiting ≡ []) qs → (c : ℕ) → waits_in qs c ≡ None
waits_in-at_rest [] none c = refl
waits_in-at_rest (q ∷ qs) none c =
    let empty : q.waiting ≡ [] = none zero q (omega arith) in
    let rest : waits_in qs c ≡ None = waits_in-at_rest qs (All-tail (λ (queue : QueueOf). queue.waiting ≡ []) q qs none) c in
    ap (λ (line : List ℕ). if list_any (λ d. d == c) line then Some 0 else option_map suc (waits_in qs c)) empty ∙ ap (option_map suc) rest

-- each agent is idle, given its number
pub state_at-at_rest : (agents : List Agent) → All (λ agent. agent.state ≡ Idle) agents → (a : ℕ) → state_at agents a ≡ Idle
state_at-at_rest [] idle a = refl
state_at-at_rest (x ∷ xs) idle zero = idle zero x (omega arith)
state_at-at_rest (x ∷ xs) idle (suc a) = state_at-at_rest xs (All-tail (λ (agent : Agent). agent.state ≡ Idle) x xs idle) a

-- so queues whose members are agents are linked with them, without any seats
pub linked-at_rest : (q : QueuesOf) → IsAtRest q → AreMembers q.queues q.agents → AreLinked q.queues q.agents
linked-at_rest q rest members = record {
  waits_once = λ c. let none : times_waiting q.queues c ≡ 0 = times-none q.queues c (waits_in-at_rest q.queues rest.nobody_waits c) in omega (arith, none);
  rings_right = λ a. let P : AgentState → Type 0 = λ s. IsRight q.queues s in subst P (sym (state_at-at_rest q.agents rest.all_idle a)) tt;
  talks_once = λ a b c first second.
      let silent : talks_with c (state_at q.agents a) ≡ false = ap (talks_with c) (state_at-at_rest q.agents rest.all_idle a) in absurd (cc);
  members = members;
}

pub seated-at_rest : (seats : SeatsOf) (q : QueuesOf) → IsEmpty seats → IsAtRest q → AreSeated seats q.queues q.agents
seated-at_rest seats q empty rest c =
    ap (λ xs. seat_of (lookup (nat_eq c) xs)) empty ∙ sym (ap (option_map _) (waits_in-at_rest q.queues rest.nobody_waits c))

-- and nobody talks
pub found-at_rest : (seats : SeatsOf) (q : QueuesOf) → IsAtRest q → AreFound seats q.agents
found-at_rest seats q rest a c talks =
    let silent : talks_with c (state_at q.agents a) ≡ false = ap (talks_with c) (state_at-at_rest q.agents rest.all_idle a) in absurd (cc)

-- what follows from one value and from the next
if_ok-then : {X Y E : Type 0} (P : X → Type 0) (Q : Y → Type 0) (r : Result X E) (f : X → Result Y E) → ((x : X) → P x → IfOk (f x) Q)
    → IfOk r P → IfOk (r >>= f) Q
if_ok-then P Q (Ok x) f step holds = step x holds
if_ok-then P Q (Err e) f step holds = tt

-- the same for any value
if_ok-any : {X Y E : Type 0} (Q : Y → Type 0) (r : Result X E) (f : X → Y) → ((x : X) → Q (f x)) → IfOk (r >>= λ x. Ok (f x)) Q
if_ok-any Q (Ok x) f step = step x
if_ok-any Q (Err e) f step = tt

if_ok-at_line : {X : Type 0} (P : X → Type 0) (line : ℕ) (r : Result X QueueKind) → IfOk r P → IfOk (at_line line r) P
if_ok-at_line P line (Ok x) holds = holds
if_ok-at_line P line (Err kind) holds = tt

abbrev is_at_rest : FileOf → Type 0
is_at_rest file = IsAtRest file.made

-- a line leaves the queues at rest
after_header-at_rest : (file : FileOf) (name : List ℕ) → IsAtRest file.made → IfOk (after_header file name) is_at_rest
after_header-at_rest file name rest = by (same_word name (codes "general"))
  where
    by_number : (o : Option ℕ) → IfOk (begun_by file name o) is_at_rest
    by_number None = record {
      nobody_waits = All-push (λ (queue : QueueOf). queue.waiting ≡ []) file.made.queues _ rest.nobody_waits refl;
      all_idle = rest.all_idle;
    }
    by_number (Some number) = tt

    by : (b : Bool) → IfOk (if b then Ok (record file { section = None }) else begun_by file name (queue_number file.made.queues name)) is_at_rest
    by true = rest
    by false = by_number (queue_number file.made.queues name)

with_agent-idle : (agents : List Agent) (name : List ℕ) → All (λ agent. agent.state ≡ Idle) agents → All (λ agent. agent.state ≡ Idle) (with_agent agents name)
with_agent-idle agents name idle = by (nat_lt (agent_number agents name) (length agents))
  where
    by : (b : Bool) → All (λ agent. agent.state ≡ Idle) (if b then agents else agents ++ record { name = name; state = Idle } ∷ [])
    by true = idle
    by false = All-push (λ (agent : Agent). agent.state ≡ Idle) agents _ idle refl

named-at_rest : (q : QueuesOf) (number : ℕ) (name : List ℕ) (penalty : ℕ) → IsAtRest q → IsAtRest (with_named q number name penalty)
named-at_rest q number name penalty rest = by (is_passed_over q number name)
  where
    by : (b : Bool) → IsAtRest (if b then q else with_member_at q number name penalty false)
    by true = rest
    by false = record {
      nobody_waits = all-changed_at (λ (queue : QueueOf). queue.waiting ≡ []) _ number q.queues (λ queue here none. none) rest.nobody_waits;
      all_idle = with_agent-idle q.agents name rest.all_idle;
    }

with_pair-at_rest : (q : QueuesOf) (number : ℕ) (key value : List ℕ) → IsAtRest q → IfOk (with_pair q number key value) IsAtRest
with_pair-at_rest q number key value rest = by (same_word key (codes "member"))
  where
    by : (b : Bool) → IfOk (if b then with_member_line q number (arguments_of value) else with_key q number key value) IsAtRest
    by true =
        if_ok-any IsAtRest (penalty_in (argument_at (arguments_of value) 1)) (with_named q number (argument_at (arguments_of value) 0))
        (λ penalty. named-at_rest q number (argument_at (arguments_of value) 0) penalty rest)
    by false = if_ok-any IsAtRest (setting_of key value) _ (λ setting. record {
      nobody_waits = all-changed_at (λ (queue : QueueOf). queue.waiting ≡ []) (with_queue_setting setting) number q.queues (λ queue here none. none) rest.nobody_waits;
      all_idle = rest.all_idle;
    })

pair-at_rest : (file : FileOf) (section : Option ℕ) (key value : List ℕ) → IsAtRest file.made → IfOk (after_pair file section key value) is_at_rest
pair-at_rest file None key value rest = rest
pair-at_rest file (Some number) key value rest =
    if_ok-then IsAtRest is_at_rest (with_pair file.made number key value) _ (λ q kept. kept) (with_pair-at_rest file.made number key value rest)

line-at_rest : (file : FileOf) (line : LineOf) → IsAtRest file.made → IfOk (after_line file line) is_at_rest
line-at_rest file (Header line name) rest = if_ok-at_line is_at_rest line (after_header file name) (after_header-at_rest file name rest)
line-at_rest file (Pair line key value) rest =
    if_ok-at_line is_at_rest line (after_pair file file.section key value) (pair-at_rest file file.section key value rest)

lines-at_rest : (file : FileOf) (lines : List LineOf) → IsAtRest file.made → IfOk (after_lines file lines) is_at_rest
lines-at_rest file [] rest = rest
lines-at_rest file (line ∷ lines) rest =
    if_ok-then is_at_rest is_at_rest (after_line file line) _ (λ next kept. lines-at_rest next lines kept) (line-at_rest file line rest)

-- and so do all lines of a file
pub made-at_rest : (lines : List LineOf) (file : FileOf) → after_lines nothing_read lines ≡ Ok file → IsAtRest file.made
made-at_rest lines file e =
    let P : Result FileOf QueueFault → Type 0 = λ r. IfOk r is_at_rest in
    subst P e (lines-at_rest nothing_read lines (record { nobody_waits = λ k d within. absurd (omega (arith, within)); all_idle = λ k d within. absurd (omega (arith, within)) }))
