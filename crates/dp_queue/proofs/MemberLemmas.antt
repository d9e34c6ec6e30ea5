-- The members of queues stay agents, each at most once in a queue, and no two agents get the same name.
use Rattle.std.proofs.Common.{◌≡◌, ◌≢◌, ℕ, zero, suc, ◌+◌, ◌<◌, ◌≤◌, nat_lt, Bool, true, false, not, ◌&&◌, ◌||◌, List, [], ◌∷◌, ◌++◌, map, Some, None, refl, sym, length, get_or, ap, ◌∙◌, arith, if◌then◌else◌, subst, slice_get}
use Rattle.std.proofs.lemmas.List.{get_or-map, length-map, length_push}
use Rattle.std.proofs.lemmas.List.Elements.{All-nil, All-cons, All-head, All-tail, All-push, All-map, All-weaker}
use Rattle.std.proofs.lemmas.List.Kept.{AllPairs-cons}
use Rattle.std.proofs.lemmas.List.Quantifiers.{all_pairs_push}
use Rattle.std.proofs.lemmas.List.Sums.{prefix_len-le-length, fails_before_first}
use Rattle.std.specs.List.{All, AllPairs, list_any, position_or_len}
use Rattle.std.specs.Option.{option_map, unwrap_or}
use Rattle.dp_conf.specs.Words.{same_text}
use Rattle.dp_queue.specs.Agents.{agent_number, is_named, with_state_at, idle_if_ringing, all_freed}
use Rattle.dp_queue.specs.Calls.{finished_member, finished_queue}
use Rattle.dp_conf.specs.Changes.{changed_at}
use Rattle.dp_queue.specs.Changes.{without, one_more}
use Rattle.dp_queue.specs.Good.{AreKnown, StandOnce, AreMembers}
use Rattle.dp_queue.specs.Members.{is_agent, has_member, is_member_at, new_member, with_member, with_agent, without_member, paused_member, paused_queue}
use Rattle.dp_queue.specs.Queues.{QueueOf}
use Rattle.dp_queue.specs.declared.agent.Agent.{Agent}
use Rattle.dp_queue.specs.declared.agent.AgentState.{AgentState}
use Rattle.dp_queue.specs.declared.agent.AgentState.TheVariants.{Idle}
use Rattle.dp_queue.specs.declared.member.Member.{Member}
use Rattle.dp_queue.proofs.ChangeLemmas.{all-changed_at, length-changed_at}
use borrow.Author.Tests.{eq-eqb, ltb-true, ltb-false}

-- what a change keeps for the members of a queue
pub record KeepsMembers (change : QueueOf → QueueOf) : Type 0 where
  pub known : (count : ℕ) (q : QueueOf) → AreKnown count q.members → AreKnown count (change q).members
  pub once : (q : QueueOf) → StandOnce q.members → StandOnce (change q).members

-- a change that does not change the members
pub keeps-same : (change : QueueOf → QueueOf) → ((q : QueueOf) → (change q).members ≡ q.members) → KeepsMembers change
keeps-same change same = record {
  known = λ count q known. subst (AreKnown count) (sym (same q)) known;
  once = λ q once. subst StandOnce (sym (same q)) once;
}

-- a member whose record changes stays the same agent
agent-mapped : (f : Member → Member) → ((m : Member) → (f m).agent ≡ m.agent) → (ms : List Member) (k : ℕ) (d : Member) → k < length ms
    → (get_or (map f ms) k d).agent ≡ (get_or ms k d).agent
agent-mapped f same ms k d within = ap (λ (m : Member). m.agent) (get_or-map f ms k d d within) ∙ same (get_or ms k d)

-- a change of the members' records that keeps the agent of each
pub keeps-mapped : (f : Member → Member) → ((m : Member) → (f m).agent ≡ m.agent) → (change : QueueOf → QueueOf)
    → ((q : QueueOf) → (change q).members ≡ map f q.members) → KeepsMembers change
keeps-mapped f same change is = record {
  known = λ count q known. subst (AreKnown count) (sym (is q)) (mapped_known count q.members known);
  once = λ q once. subst StandOnce (sym (is q)) (mapped_once q.members once);
}
  where
    mapped_known : (count : ℕ) (ms : List Member) → AreKnown count ms → AreKnown count (map f ms)
    mapped_known count ms known k d within =
        let inside : k < length ms = omega (arith, within, length-map ms f) in
        omega (arith, known k d inside, agent-mapped f same ms k d inside)

    mapped_once : (ms : List Member) → StandOnce ms → StandOnce (map f ms)
    mapped_once ms once j k d before within both =
        let inside : k < length ms = omega (arith, within, length-map ms f) in
        once j k d before inside (sym (agent-mapped f same ms j d (omega (arith, before, inside))) ∙ both ∙ agent-mapped f same ms k d inside)

-- a member is paused or unpaused
pub keeps-paused : (a : ℕ) (is_paused : Bool) → KeepsMembers (paused_queue a is_paused)
keeps-paused a is_paused = keeps-mapped (paused_member a is_paused) (λ m. refl) (paused_queue a is_paused) (λ q. refl)

-- a call is counted
pub keeps-finished : (a count : ℕ) → KeepsMembers (finished_queue a count)
keeps-finished a count = keeps-mapped (finished_member a count) same (finished_queue a count) (λ q. refl)
  where
    same : (m : Member) → (finished_member a count m).agent ≡ m.agent
    same m = by (is_agent a m)
      where
        by : (b : Bool) → (if b then record m { calls = one_more m.calls; last = count } else m).agent ≡ m.agent
        by true = refl
        by false = refl

-- what holds of each element holds of the remaining ones
all-without : {X : Type 0} (P : X → Type 0) (p : X → Bool) (xs : List X) → All P xs → All P (without p xs)
all-without P p [] each = each
all-without P p (x ∷ xs) each = by (p x) (all-without P p xs (All-tail P x xs each))
  where
    by : (b : Bool) → All P (without p xs) → All P (if b then xs else x ∷ without p xs)
    by true rest = All-tail P x xs each
    by false rest = All-cons P x (without p xs) (All-head P x xs each) rest

-- the first of a list compared with the others, and the others with each other
pub pairs-head : {X : Type 0} (R : X → X → Type 0) (x : X) (xs : List X) → AllPairs R (x ∷ xs) → All (R x) xs
pairs-head R x xs pairs k d within = pairs 0 (suc k) d (omega arith) (omega (arith, within))

pub pairs-tail : {X : Type 0} (R : X → X → Type 0) (x : X) (xs : List X) → AllPairs R (x ∷ xs) → AllPairs R xs
pairs-tail R x xs pairs j k d before within = pairs (suc j) (suc k) d (omega (arith, before)) (omega (arith, within))

pub pairs-without : {X : Type 0} (R : X → X → Type 0) (p : X → Bool) (xs : List X) → AllPairs R xs → AllPairs R (without p xs)
pairs-without R p [] pairs = pairs
pairs-without R p (x ∷ xs) pairs = by (p x) (pairs-without R p xs (pairs-tail R x xs pairs))
  where
    by : (b : Bool) → AllPairs R (without p xs) → AllPairs R (if b then xs else x ∷ without p xs)
    by true rest = pairs-tail R x xs pairs
    by false rest = AllPairs-cons R x (without p xs) (all-without (R x) p xs (pairs-head R x xs pairs)) rest

-- a member is removed
pub keeps-without : (a : ℕ) → KeepsMembers (without_member a)
keeps-without a = record {
  known = λ count q known. all-without (λ (member : Member). member.agent < count) (is_agent a) q.members known;
  once = λ q once. pairs-without (λ (member : Member) (other : Member). member.agent ≢ other.agent) (is_agent a) q.members once;
}

-- the members of the queues after such a change of one queue
pub members-changed : (change : QueueOf → QueueOf) (k : ℕ) (qs ps : List QueueOf) (as' : List Agent) → KeepsMembers change
    → ps ≡ changed_at change k qs → AreMembers qs as' → AreMembers ps as'
members-changed change k qs ps as' keeps is members =
    let P : List QueueOf → Type 0 = λ x. AreMembers x as' in
    subst P (sym is) (record {
      are_agents = all-changed_at (λ (q : QueueOf). AreKnown (length as') q.members) change k qs (λ q here known. keeps.known (length as') q known) members.are_agents;
      stand_once = all-changed_at (λ (q : QueueOf). StandOnce q.members) change k qs (λ q here once. keeps.once q once) members.stand_once;
      names_differ = members.names_differ;
    })

-- and the same for all queues
pub members-mapped : (change : QueueOf → QueueOf) (qs ps : List QueueOf) (as' : List Agent) → KeepsMembers change
    → ps ≡ map change qs → AreMembers qs as' → AreMembers ps as'
members-mapped change qs ps as' keeps is members =
    let P : List QueueOf → Type 0 = λ x. AreMembers x as' in
    subst P (sym is) (record {
      are_agents = All-map (λ (q : QueueOf). AreKnown (length as') q.members) change qs
          (All-weaker (λ (q : QueueOf). AreKnown (length as') q.members) (λ (q : QueueOf). AreKnown (length as') (change q).members) (keeps.known (length as')) qs members.are_agents);
      stand_once = All-map (λ (q : QueueOf). StandOnce q.members) change qs
          (All-weaker (λ (q : QueueOf). StandOnce q.members) (λ (q : QueueOf). StandOnce (change q).members) keeps.once qs members.stand_once);
      names_differ = members.names_differ;
    })

-- agents whose names do not change
members-named : (qs : List QueueOf) (as' bs : List Agent) → length bs ≡ length as'
    → ((k : ℕ) (d : Agent) → (get_or bs k d).name ≡ (get_or as' k d).name) → AreMembers qs as' → AreMembers qs bs
members-named qs as' bs same names members = record {
  are_agents = let P : ℕ → Type 0 = λ count. All (λ (q : QueueOf). AreKnown count q.members) qs in subst P (sym same) members.are_agents;
  stand_once = members.stand_once;
  names_differ = λ j k d before within both.
      members.names_differ j k d before (omega (arith, within, same)) (sym (names j d) ∙ both ∙ names k d);
}

-- an agent enters another state
pub members-set : (a : ℕ) (s : AgentState) (qs : List QueueOf) (as' : List Agent) → AreMembers qs as' → AreMembers qs (with_state_at a s as')
members-set a s qs as' members = members-named qs as' (with_state_at a s as') (length-changed_at _ a as') (names a as') members
  where
    names : (a : ℕ) (xs : List Agent) (k : ℕ) (d : Agent) → (get_or (with_state_at a s xs) k d).name ≡ (get_or xs k d).name
    names a [] k d = refl
    names zero (x ∷ xs) zero d = refl
    names zero (x ∷ xs) (suc k) d = refl
    names (suc a) (x ∷ xs) zero d = refl
    names (suc a) (x ∷ xs) (suc k) d = names a xs k d

-- the agents that ring for a channel become idle
pub members-idle_if_ringing : (c : ℕ) (qs : List QueueOf) (as' : List Agent) → AreMembers qs as' → AreMembers qs (all_freed c as')
members-idle_if_ringing c qs as' members = members-named qs as' (all_freed c as') (length-map as' (idle_if_ringing c)) (names as') members
  where
    names : (xs : List Agent) (k : ℕ) (d : Agent) → (get_or (all_freed c xs) k d).name ≡ (get_or xs k d).name
    names [] k d = refl
    names (x ∷ xs) zero d = refl
    names (x ∷ xs) (suc k) d = names xs k d

-- the number of an agent is its first place, or the length
number-is : (name : List ℕ) (as' : List Agent) → agent_number as' name ≡ position_or_len (is_named name) as'
number-is name as' = by (position_or_len (is_named name) as') (prefix_len-le-length (λ agent. not (is_named name agent)) as')
  where
    by : (n : ℕ) → n ≤ length as' → unwrap_or (if nat_lt n (length as') then Some n else None) (length as') ≡ n
    by n most = by_less (nat_lt n (length as')) refl
      where
        by_less : (b : Bool) → nat_lt n (length as') ≡ b → unwrap_or (if b then Some n else None) (length as') ≡ n
        by_less true less = refl
        by_less false past = let at_least : length as' ≤ n = ltb-false n (length as') past in omega (arith, most, at_least)

-- two equal texts are the same
same_text-self : (name : List ℕ) → same_text name name ≡ true
same_text-self [] = refl
same_text-self (x ∷ xs) = (λ i. eq-eqb x x refl i && same_text-self xs i)

-- if no agent has the name, each has a different one
pub names-apart : (name : List ℕ) (as' : List Agent) → nat_lt (agent_number as' name) (length as') ≡ false → All (λ (agent : Agent). agent.name ≢ name) as'
names-apart name as' past k d within same =
    let at_least : length as' ≤ agent_number as' name = ltb-false (agent_number as' name) (length as') past in
    let fails : is_named name (get_or as' k d) ≡ false = fails_before_first (is_named name) as' k d (omega (arith, within, at_least, number-is name as')) in
    let passes : is_named name (get_or as' k d) ≡ true = ap (λ text. same_text text name) same ∙ same_text-self name in
    absurd (cc)

-- an agent becomes known
members-known : (name : List ℕ) (qs : List QueueOf) (as' : List Agent) → AreMembers qs as' → AreMembers qs (with_agent as' name)
members-known name qs as' members = by (nat_lt (agent_number as' name) (length as')) refl
  where
    by : (b : Bool) → nat_lt (agent_number as' name) (length as') ≡ b → AreMembers qs (if b then as' else as' ++ record { name = name; state = Idle } ∷ [])
    by true known = members
    by false new = record {
      are_agents = All-weaker (λ (q : QueueOf). AreKnown (length as') q.members)
          (λ (q : QueueOf). AreKnown (length (as' ++ record { name = name; state = Idle } ∷ [])) q.members)
          (λ q known. All-weaker (λ (member : Member). member.agent < length as') (λ (member : Member). member.agent < length (as' ++ record { name = name; state = Idle } ∷ []))
          (λ member within. omega (arith, within, grown)) q.members known)
          qs members.are_agents;
      stand_once = members.stand_once;
      names_differ = all_pairs_push (λ (agent : Agent) (other : Agent). agent.name ≢ other.name) as' (record { name = name; state = Idle })
          members.names_differ (names-apart name as' new);
    }
      where
        grown : length (as' ++ record { name = name; state = Idle } ∷ []) ≡ length as' + 1
        grown = length_push as' _

-- and its number is one of the agents
number-known : (name : List ℕ) (as' : List Agent) → agent_number as' name < length (with_agent as' name)
number-known name as' = by (nat_lt (agent_number as' name) (length as')) refl
  where
    by : (b : Bool) → nat_lt (agent_number as' name) (length as') ≡ b
        → agent_number as' name < length (if b then as' else as' ++ record { name = name; state = Idle } ∷ [])
    by true known = ltb-true (agent_number as' name) (length as') known
    by false new =
        let most : position_or_len (is_named name) as' ≤ length as' = prefix_len-le-length (λ agent. not (is_named name agent)) as' in
        omega (arith, most, number-is name as', length_push as' (record { name = name; state = Idle }))

-- if no member is the agent, each is a different one
pub agents-apart : (a : ℕ) (ms : List Member) → list_any (is_agent a) ms ≡ false → All (λ (member : Member). member.agent ≢ a) ms
agents-apart a [] none = λ k d within. absurd (omega (arith, within))
agents-apart a (m ∷ ms) none = by (is_agent a m) refl (agents-apart a ms) none
  where
    by : (b : Bool) → is_agent a m ≡ b → (list_any (is_agent a) ms ≡ false → All (λ (member : Member). member.agent ≢ a) ms)
        → (b || list_any (is_agent a) ms) ≡ false → All (λ (member : Member). member.agent ≢ a) (m ∷ ms)
    by true here rest none = absurd (cc)
    by false there rest none = All-cons (λ (member : Member). member.agent ≢ a) m ms
        (λ same. let is : is_agent a m ≡ true = eq-eqb m.agent a same in absurd (cc)) (rest none)

-- an agent that is not a member of a queue becomes its last one
pub members-added : (qs ps : List QueueOf) (as' bs : List Agent) (number : ℕ) (name : List ℕ) (penalty : ℕ) (is_dynamic : Bool)
    → is_member_at qs number (agent_number as' name) ≡ false
    → ps ≡ changed_at (with_member (new_member (agent_number as' name) penalty is_dynamic)) number qs → bs ≡ with_agent as' name
    → AreMembers qs as' → AreMembers ps bs
members-added qs ps as' bs number name penalty is_dynamic absent added known members =
    let P : List QueueOf → Type 0 = λ x. AreMembers x bs in
    let Q : List Agent → Type 0 = λ x. AreMembers (changed_at (with_member member) number qs) x in
    subst P (sym added) (subst Q (sym known) (record {
      are_agents = all-changed_at (λ (q : QueueOf). AreKnown (length (with_agent as' name)) q.members) (with_member member) number qs
          (λ q here all. All-push (λ (m : Member). m.agent < length (with_agent as' name)) q.members member all (number-known name as')) more.are_agents;
      stand_once = all-changed_at (λ (q : QueueOf). StandOnce q.members) (with_member member) number qs
          (λ q here once. all_pairs_push (λ (m : Member) (other : Member). m.agent ≢ other.agent) q.members member once
          (agents-apart (agent_number as' name) q.members (sym (at_queue q here) ∙ absent)))
          more.stand_once;
      names_differ = more.names_differ;
    }))
  where
    member : Member
    member = new_member (agent_number as' name) penalty is_dynamic

    more : AreMembers qs (with_agent as' name)
    more = members-known name qs as' members

    at_queue : (q : QueueOf) → slice_get qs number ≡ Some q → is_member_at qs number (agent_number as' name) ≡ has_member (agent_number as' name) q
    at_queue q here = ap (λ o. unwrap_or (option_map (has_member (agent_number as' name)) o) false) here

-- a member that came last is removed again
without-push : (a : ℕ) (ms : List Member) (m : Member) → is_agent a m ≡ true → list_any (is_agent a) ms ≡ false → without (is_agent a) (ms ++ m ∷ []) ≡ ms
without-push a [] m is none = ap (λ (b : Bool). if b then [] else m ∷ []) is
without-push a (x ∷ ms) m is none = by (is_agent a x) (without-push a ms m is) none
  where
    by : (b : Bool) → (list_any (is_agent a) ms ≡ false → without (is_agent a) (ms ++ m ∷ []) ≡ ms) → (b || list_any (is_agent a) ms) ≡ false
        → (if b then ms ++ m ∷ [] else x ∷ without (is_agent a) (ms ++ m ∷ [])) ≡ x ∷ ms
    by true rest none = absurd (cc)
    by false rest none = ap (λ (t : List Member). x ∷ t) (rest none)

-- so the queues are as before
pub queues-back : (a number : ℕ) (m : Member) (qs : List QueueOf) → is_agent a m ≡ true → is_member_at qs number a ≡ false
    → changed_at (without_member a) number (changed_at (with_member m) number qs) ≡ qs
queues-back a number m [] is none = refl
queues-back a zero m (q ∷ qs) is none =
    ap (λ (ms : List Member). record q { members = ms } ∷ qs) (without-push a q.members m is none)
queues-back a (suc number) m (q ∷ qs) is none = ap (λ (t : List QueueOf). q ∷ t) (queues-back a number m qs is none)

-- a queue without members is added at the end
pub members-queue : (qs ps : List QueueOf) (q : QueueOf) (as' : List Agent) → q.members ≡ [] → ps ≡ qs ++ q ∷ [] → AreMembers qs as' → AreMembers ps as'
members-queue qs ps q as' none is members =
    let P : List QueueOf → Type 0 = λ x. AreMembers x as' in
    subst P (sym is) (record {
      are_agents = All-push (λ (x : QueueOf). AreKnown (length as') x.members) qs q members.are_agents
          (subst (AreKnown (length as')) (sym none) (All-nil (λ (member : Member). member.agent < length as')));
      stand_once = All-push (λ (x : QueueOf). StandOnce x.members) qs q members.stand_once
          (subst StandOnce (sym none) (λ j k d before within. absurd (omega (arith, within))));
      names_differ = members.names_differ;
    })
