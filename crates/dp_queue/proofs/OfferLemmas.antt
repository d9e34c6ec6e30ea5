-- The request of an offer, and the agents that begin to ring.
use Rattle.std.proofs.Common.{◌≡◌, ◌≢◌, ℕ, suc, ◌+◌, ◌<◌, ◌==◌, nat_lt, Bool, true, false, not, ◌&&◌, ◌||◌, List, [], ◌∷◌, ◌++◌, Option, Some, None, Result, Ok, refl, sym, length, ap, ◌∙◌, arith, if◌then◌else◌, slice_get, subst, fold, take, drop}
use Rattle.std.proofs.lemmas.Option.{same_Some}
use Rattle.std.proofs.lemmas.List.Elements.{All-nil, All-cons, All-head, All-tail, All-append, All-drop, All-take, All-filter, All-weaker, filter_passes}
use Rattle.std.proofs.lemmas.List.Kept.{AllPairs-filter}
use Rattle.std.specs.Option.{option_map, option_to_list}
use Rattle.std.specs.List.{All, filter, find, list_any, position}
use Rattle.dp_queue.specs.Agents.{state_at, is_idle, is_rung, rings_for, talks_with, with_state_at}
use Rattle.dp_queue.specs.Choices.{is_idle_at, is_candidate, least_penalty, lesser, rank, turned_at, members_after, one_choice, choices_of}
use Rattle.dp_queue.specs.Good.{AreKnown, StandOnce, AreLinked}
use Rattle.dp_conf.specs.Changes.{changed_at}
use Rattle.dp_queue.specs.Joining.{has_caller, waits_in}
use Rattle.dp_queue.specs.Members.{is_agent}
use Rattle.dp_queue.specs.Offers.{all_ringing, chosen_in, chosen_of, with_choice, asked_at, asked_in, asked_by, asked_for}
use Rattle.dp_queue.specs.Queues.{QueueOf}
use Rattle.dp_queue.specs.steps.Seats.{SeatsOf, AreSeated, ReplacesSeat, ReplacesTalk, rung_count, seat_in, is_unrung, is_unrung_in}
use Rattle.dp_queue.specs.declared.agent.Agent.{Agent}
use Rattle.dp_queue.specs.declared.agent.AgentState.{AgentState}
use Rattle.dp_queue.specs.declared.agent.AgentState.TheVariants.{Idle, Ringing, Talking}
use Rattle.dp_queue.specs.declared.choice.Key.TheVariants.{Last, Calls}
use Rattle.dp_queue.specs.declared.member.Member.{Member}
use Rattle.dp_queue.specs.declared.offer.OfferRequest.{OfferRequest}
use Rattle.dp_queue.specs.declared.settings.Strategy.{Strategy}
use Rattle.dp_queue.specs.declared.settings.Strategy.TheVariants.{RingAll, Linear, LeastRecent, FewestCalls, RrMemory}
use Rattle.dp_queue.proofs.AgentLemmas.{state_at-other, rung-same, rung-more, rung-none}
use Rattle.dp_queue.proofs.ChangeLemmas.{all-at, length-changed_at}
use Rattle.dp_queue.proofs.FoundLemmas.{found-replaced, talks-before}
use Rattle.dp_queue.proofs.GoodLemmas.{linked-set, right-untalked}
use Rattle.dp_queue.proofs.KeptLemmas.{AreKept, seated-replaced, kept-same}
use Rattle.dp_queue.proofs.MemberLemmas.{keeps-same, members-changed, pairs-head, pairs-tail}
use Rattle.dp_queue.proofs.WaitingLemmas.{lines, lines-changed_at, times-none, times-at, waits_in-at}
use borrow.Author.Tests.{eqb-true, eq-eqb}

-- an idle agent rings for no channel
idle-rings : (s : AgentState) (d : ℕ) → is_idle s ≡ true → rings_for d s ≡ false
idle-rings Idle d idle = refl
idle-rings (Ringing k c) d idle = absurd (cc)
idle-rings (Talking k c) d idle = refl

-- the three parts of a candidate
candidate_parts : (a b e : Bool) → ((a && b) && e) ≡ true → (a ≡ true) × (b ≡ true) × (e ≡ true)
candidate_parts true true true h = (refl, refl, refl)
candidate_parts true true false h = absurd (cc)
candidate_parts true false e h = absurd (cc)
candidate_parts false b e h = absurd (cc)

-- so a candidate is idle
pub candidate-idle : (as' : List Agent) (penalty : ℕ) (m : Member) → is_candidate as' penalty m ≡ true → is_idle (state_at as' m.agent) ≡ true
candidate-idle as' penalty m may = (candidate_parts (not m.is_paused) (is_idle_at as' m.agent) (m.penalty == penalty) may).1

-- the candidates among other members are the same after one agent begins to ring
filter-set : (a : ℕ) (s : AgentState) (as' : List Agent) (penalty : ℕ) (ms : List Member) → All (λ (m : Member). a ≢ m.agent) ms
    → filter (is_candidate (with_state_at a s as') penalty) ms ≡ filter (is_candidate as' penalty) ms
filter-set a s as' penalty [] others = refl
filter-set a s as' penalty (m ∷ ms) others =
    let other : a ≢ m.agent = All-head (λ (m : Member). a ≢ m.agent) m ms others in
    let same : is_candidate (with_state_at a s as') penalty m ≡ is_candidate as' penalty m =
    ap (λ (t : AgentState). (not m.is_paused && is_idle t) && m.penalty == penalty) (state_at-other a s as' m.agent (λ is. other (sym is))) in
    let rest : filter (is_candidate (with_state_at a s as') penalty) ms ≡ filter (is_candidate as' penalty) ms =
    filter-set a s as' penalty ms (All-tail (λ (m : Member). a ≢ m.agent) m ms others) in
    (λ i. if same i then m ∷ rest i else rest i)

-- the agents after the first of some members
abbrev pub first_rung : ℕ → ℕ → ℕ → List Agent → Member → List Agent
first_rung queue channel penalty as' m =
    if is_candidate as' penalty m then with_state_at m.agent (Ringing queue channel) as' else as'

-- the candidates of some members ring, one after another
pub ringing-first : (k c penalty : ℕ) (as' : List Agent) (m : Member) (ms : List Member) → StandOnce (m ∷ ms)
    → all_ringing k c (filter (is_candidate (first_rung k c penalty as' m) penalty) ms) (first_rung k c penalty as' m)
    ≡ all_ringing k c (filter (is_candidate as' penalty) (m ∷ ms)) as'
ringing-first k c penalty as' m ms once = by (is_candidate as' penalty m)
  where
    by : (b : Bool)
        → all_ringing k c (filter (is_candidate (if b then with_state_at m.agent (Ringing k c) as' else as') penalty) ms) (if b then with_state_at m.agent (Ringing k c) as' else as')
        ≡ all_ringing k c (if b then m ∷ filter (is_candidate as' penalty) ms else filter (is_candidate as' penalty) ms) as'
    by true = ap (λ (xs : List Member). all_ringing k c xs (with_state_at m.agent (Ringing k c) as'))
        (filter-set m.agent (Ringing k c) as' penalty ms (pairs-head (λ (member : Member) (other : Member). member.agent ≢ other.agent) m ms once))
    by false = refl

-- and they are counted
pub count-first : (k c penalty : ℕ) (as' : List Agent) (m : Member) (ms : List Member) → StandOnce (m ∷ ms)
    → (if is_candidate as' penalty m then 1 else 0) + length (filter (is_candidate (first_rung k c penalty as' m) penalty) ms)
    ≡ length (filter (is_candidate as' penalty) (m ∷ ms))
count-first k c penalty as' m ms once = by (is_candidate as' penalty m)
  where
    by : (b : Bool)
        → (if b then 1 else 0) + length (filter (is_candidate (if b then with_state_at m.agent (Ringing k c) as' else as') penalty) ms)
        ≡ length (if b then m ∷ filter (is_candidate as' penalty) ms else filter (is_candidate as' penalty) ms)
    by true =
        let same : length (filter (is_candidate (with_state_at m.agent (Ringing k c) as') penalty) ms) ≡ length (filter (is_candidate as' penalty) ms) =
        ap length (filter-set m.agent (Ringing k c) as' penalty ms (pairs-head (λ (member : Member) (other : Member). member.agent ≢ other.agent) m ms once)) in
        omega (arith, same)
    by false = omega arith

-- the first channel for which no agent rings, according to its seat or to the agents
pub unrung-same : (seats : SeatsOf) (qs : List QueueOf) (as' : List Agent) (xs : List ℕ) → AreSeated seats qs as'
    → ((d : ℕ) → list_any (λ e. e == d) xs ≡ true → waits_in qs d ≡ None → ⊥)
    → find (is_unrung seats) xs ≡ find (λ c. not (is_rung as' c)) xs
unrung-same seats qs as' [] seated waits = refl
unrung-same seats qs as' (x ∷ xs) seated waits =
    (λ i. if here i then Some x else unrung-same seats qs as' xs seated (λ d e. waits d (later (x == d) (list_any (λ e. e == d) xs) e)) i)
  where
    later : (a b : Bool) → b ≡ true → (a || b) ≡ true
    later true b e = refl
    later false b e = e

    mark : (o : Option ℕ) → (o ≡ None → ⊥) → is_unrung_in (option_map (seat_in as' x) o) ≡ not (is_rung as' x)
    mark None some = absurd (some refl)
    mark (Some k) some = rung-none as' x

    here : is_unrung seats x ≡ not (is_rung as' x)
    here = ap is_unrung_in (seated x) ∙ mark (waits_in qs x) (waits x (ap (λ (b : Bool). b || list_any (λ e. e == x) xs) (eq-eqb x x refl)))

-- a channel in the list of a queue waits
pub stands-waits : (qs : List QueueOf) (k : ℕ) (q : QueueOf) (d : ℕ) → slice_get qs k ≡ Some q → list_any (λ e. e == d) q.waiting ≡ true
    → waits_in qs d ≡ None → ⊥
stands-waits qs k q d at' stands none = omega (arith, times-at qs d k q at' stands, times-none qs d none)

-- a found element passes and is in the list
find-facts : (p : ℕ → Bool) (xs : List ℕ) (c : ℕ) → find p xs ≡ Some c → (p c ≡ true) × (list_any (λ e. e == c) xs ≡ true)
find-facts p [] c e = absurd (cc)
find-facts p (x ∷ xs) c e = by (p x) refl (find-facts p xs c) e
  where
    later : (a b : Bool) → b ≡ true → (a || b) ≡ true
    later true b e = refl
    later false b e = e

    by : (b : Bool) → p x ≡ b → (find p xs ≡ Some c → (p c ≡ true) × (list_any (λ e. e == c) xs ≡ true)) → (if b then Some x else find p xs) ≡ Some c
        → (p c ≡ true) × ((x == c || list_any (λ e. e == c) xs) ≡ true)
    by true here rest e =
        let is : x ≡ c = same_Some x c e in
        (ap p (sym is) ∙ here, ap (λ (b : Bool). b || list_any (λ e. e == c) xs) (eq-eqb x c is))
    by false here rest e = let facts : (p c ≡ true) × (list_any (λ e. e == c) xs ≡ true) = rest e in (facts.0, later (x == c) _ facts.1)

-- the request of an offer: the channel is in the list of the queue, and no agent rings for it
pub record IsAsked (qs : List QueueOf) (as' : List Agent) (asked : OfferRequest) : Type 0 where
  pub queue : QueueOf
  pub at : slice_get qs asked.queue ≡ Some queue
  pub stands : has_caller asked.channel queue ≡ true
  pub unrung : is_rung as' asked.channel ≡ false

not_true : (b : Bool) → not b ≡ true → b ≡ false
not_true true e = absurd (cc)
not_true false e = refl

pub asked-facts : (qs : List QueueOf) (as' : List Agent) (o : Option ℕ) (asked : OfferRequest) → asked_at qs as' o ≡ Ok asked → IsAsked qs as' asked
asked-facts qs as' None asked e = absurd (cc)
asked-facts qs as' (Some k) asked e = by_queue (slice_get qs k) refl e
  where
    by_penalty : (q : QueueOf) (c : ℕ) (o : Option ℕ) → slice_get qs k ≡ Some q → has_caller c q ≡ true → is_rung as' c ≡ false
        → asked_for k c o ≡ Ok asked → IsAsked qs as' asked
    by_penalty q c None here stands unrung e = absurd (cc)
    by_penalty q c (Some p) here stands unrung e =
        let same : record { queue = k; channel = c; penalty = p } ≡ asked = same_ok e in
        let P : OfferRequest → Type 0 = λ x. IsAsked qs as' x in
        subst P same (record { queue = q; at = here; stands = stands; unrung = unrung })
      where
        same_ok : {E : Type 0} {x y : OfferRequest} → ◌≡◌ {A = Result OfferRequest E} (Ok x) (Ok y) → x ≡ y
        same_ok e = cc

    by_channel : (q : QueueOf) (o : Option ℕ) → slice_get qs k ≡ Some q → find (λ c. not (is_rung as' c)) q.waiting ≡ o
        → asked_by as' k q o ≡ Ok asked → IsAsked qs as' asked
    by_channel q None here found e = absurd (cc)
    by_channel q (Some c) here found e =
        let facts : (not (is_rung as' c) ≡ true) × (has_caller c q ≡ true) = find-facts (λ c. not (is_rung as' c)) q.waiting c found in
        by_penalty q c (least_penalty as' q.members) here facts.1 (not_true (is_rung as' c) facts.0) e

    by_queue : (o : Option QueueOf) → slice_get qs k ≡ o → asked_in as' k o ≡ Ok asked → IsAsked qs as' asked
    by_queue None here e = absurd (cc)
    by_queue (Some q) here e = by_channel q (find (λ c. not (is_rung as' c)) q.waiting) here refl e

-- so the channel waits in that queue
pub asked-waits : (qs : List QueueOf) (as' bs : List Agent) (asked : OfferRequest) → AreLinked qs bs → IsAsked qs as' asked
    → waits_in qs asked.channel ≡ Some asked.queue
asked-waits qs as' bs asked good is_asked =
    waits_in-at qs asked.channel asked.queue is_asked.queue (good.waits_once asked.channel) is_asked.at is_asked.stands

-- what holds of each member holds of the one found
all-found : (P : Member → Type 0) (test : Member → Bool) (ms : List Member) → All P ms → All P (option_to_list (find test ms))
all-found P test [] each = each
all-found P test (m ∷ ms) each = by (test m) (all-found P test ms (All-tail P m ms each))
  where
    by : (b : Bool) → All P (option_to_list (find test ms)) → All P (option_to_list (if b then Some m else find test ms))
    by true rest = All-cons P m [] (All-head P m ms each) (All-nil P)
    by false rest = rest

-- and of the one with the smallest number
all-least : (P : Member → Type 0) (f : Member → ℕ) (best : Option Member) (ms : List Member) → All P (option_to_list best) → All P ms
    → All P (option_to_list (fold (lesser f) best ms))
all-least P f best [] first each = first
all-least P f best (m ∷ ms) first each = all-least P f (lesser f best m) ms (by best first) (All-tail P m ms each)
  where
    here : All P (m ∷ [])
    here = All-cons P m [] (All-head P m ms each) (All-nil P)

    by : (o : Option Member) → All P (option_to_list o) → All P (option_to_list (lesser f o m))
    by None first = here
    by (Some other) first = by_less (nat_lt (f m) (f other))
      where
        by_less : (b : Bool) → All P ((if b then m else other) ∷ [])
        by_less true = here
        by_less false = first

-- and of the rotated members
all-members_after : (P : Member → Type 0) (last : Option ℕ) (ms : List Member) → All P ms → All P (members_after last ms)
all-members_after P None ms each = each
all-members_after P (Some agent) ms each = by (position (is_agent agent) ms)
  where
    by : (o : Option ℕ) → All P (turned_at o ms)
    by None = each
    by (Some place) = All-append P (drop (place + 1) ms) (take (place + 1) ms) (All-drop P (place + 1) ms each) (All-take P (place + 1) ms each)

-- and so of all that a strategy chooses
pub all-choices_of : (P : Member → Type 0) (s : Strategy) (last : Option ℕ) (test : Member → Bool) (ms : List Member) → All P ms → All P (choices_of s last test ms)
all-choices_of P RingAll last test ms each = All-filter test P ms each
all-choices_of P Linear last test ms each = all-found P test ms each
all-choices_of P LeastRecent last test ms each = all-least P (rank Last) None (filter test ms) (All-nil P) (All-filter test P ms each)
all-choices_of P FewestCalls last test ms each = all-least P (rank Calls) None (filter test ms) (All-nil P) (All-filter test P ms each)
all-choices_of P RrMemory last test ms each = all-found P test (members_after last ms) (all-members_after P last ms each)

-- each member that a strategy chooses is a candidate
passes-found : (test : Member → Bool) (ms : List Member) → All (λ (m : Member). test m ≡ true) (option_to_list (find test ms))
passes-found test [] = All-nil (λ (m : Member). test m ≡ true)
passes-found test (m ∷ ms) = by (test m) refl (passes-found test ms)
  where
    by : (b : Bool) → test m ≡ b → All (λ (m : Member). test m ≡ true) (option_to_list (find test ms))
        → All (λ (m : Member). test m ≡ true) (option_to_list (if b then Some m else find test ms))
    by true passes rest = All-cons (λ (m : Member). test m ≡ true) m [] passes (All-nil (λ (m : Member). test m ≡ true))
    by false fails rest = rest

pub passes-choices_of : (s : Strategy) (last : Option ℕ) (test : Member → Bool) (ms : List Member) → All (λ (m : Member). test m ≡ true) (choices_of s last test ms)
passes-choices_of RingAll last test ms = filter_passes test ms
passes-choices_of Linear last test ms = passes-found test ms
passes-choices_of LeastRecent last test ms =
    all-least (λ (m : Member). test m ≡ true) (rank Last) None (filter test ms) (All-nil (λ (m : Member). test m ≡ true)) (filter_passes test ms)
passes-choices_of FewestCalls last test ms =
    all-least (λ (m : Member). test m ≡ true) (rank Calls) None (filter test ms) (All-nil (λ (m : Member). test m ≡ true)) (filter_passes test ms)
passes-choices_of RrMemory last test ms = passes-found test (members_after last ms)

-- of at most one member no two are the same agent
once-few : (o : Option Member) → StandOnce (option_to_list o)
once-few None j k d before within = absurd (omega (arith, within))
once-few (Some m) j k d before within = absurd (omega (arith, before, within))

-- and the same for those that a strategy chooses
once-choices_of : (s : Strategy) (last : Option ℕ) (test : Member → Bool) (ms : List Member) → StandOnce ms → StandOnce (choices_of s last test ms)
once-choices_of RingAll last test ms once = AllPairs-filter (λ (member : Member) (other : Member). member.agent ≢ other.agent) test ms once
once-choices_of Linear last test ms once = once-few (one_choice Linear last test ms)
once-choices_of LeastRecent last test ms once = once-few (one_choice LeastRecent last test ms)
once-choices_of FewestCalls last test ms once = once-few (one_choice FewestCalls last test ms)
once-choices_of RrMemory last test ms once = once-few (one_choice RrMemory last test ms)

-- other agents are as idle as before one begins to ring
idle-others : (a : ℕ) (s : AgentState) (as' : List Agent) (ms : List Member) → All (λ (m : Member). a ≢ m.agent) ms
    → All (λ (m : Member). is_idle (state_at as' m.agent) ≡ true) ms → All (λ (m : Member). is_idle (state_at (with_state_at a s as') m.agent) ≡ true) ms
idle-others a s as' [] others idle = All-nil (λ (m : Member). is_idle (state_at (with_state_at a s as') m.agent) ≡ true)
idle-others a s as' (m ∷ ms) others idle =
    All-cons (λ (x : Member). is_idle (state_at (with_state_at a s as') x.agent) ≡ true) m ms
    (ap is_idle (state_at-other a s as' m.agent (λ is. All-head (λ (x : Member). a ≢ x.agent) m ms others (sym is)))
    ∙ All-head (λ (x : Member). is_idle (state_at as' x.agent) ≡ true) m ms idle)
    (idle-others a s as' ms (All-tail (λ (x : Member). a ≢ x.agent) m ms others) (All-tail (λ (x : Member). is_idle (state_at as' x.agent) ≡ true) m ms idle))

-- the agents after this many begin to ring for a channel
pub record Rings (qs : List QueueOf) (c : ℕ) (before after : List Agent) (count : ℕ) : Type 0 where
  pub linked : AreLinked qs after
  pub counted : rung_count after c ≡ rung_count before c + count
  pub others : (d : ℕ) → (c == d) ≡ false → rung_count after d ≡ rung_count before d
  pub talks : (a d : ℕ) → talks_with d (state_at after a) ≡ true → talks_with d (state_at before a) ≡ true

-- one more agent rings, before the others
rings-more : (qs : List QueueOf) (k c : ℕ) (m : Member) (as' after : List Agent) (count : ℕ) → m.agent < length as'
    → is_idle (state_at as' m.agent) ≡ true → Rings qs c (with_state_at m.agent (Ringing k c) as') after count → Rings qs c as' after (suc count)
rings-more qs k c m as' after count known idle rest =
    let more : rung_count (with_state_at m.agent (Ringing k c) as') c ≡ suc (rung_count as' c) =
    rung-more m.agent (Ringing k c) as' c known (eq-eqb c c refl) (idle-rings (state_at as' m.agent) c idle) in
    record {
      linked = rest.linked;
      counted = omega (arith, rest.counted, more);
      others = λ d other. rest.others d other ∙ rung-same m.agent (Ringing k c) as' d (other ∙ sym (idle-rings (state_at as' m.agent) d idle));
      talks = λ a d talks. talks-before m.agent (Ringing k c) as' d a refl (rest.talks a d talks);
    }

-- the agents of members ring
rings-all : (qs : List QueueOf) (k c : ℕ) (ms : List Member) (as' : List Agent) → waits_in qs c ≡ Some k → AreLinked qs as'
    → AreKnown (length as') ms → All (λ (m : Member). is_idle (state_at as' m.agent) ≡ true) ms → StandOnce ms
    → Rings qs c as' (all_ringing k c ms as') (length ms)
rings-all qs k c [] as' waits linked known idle once = record {
  linked = linked;
  counted = omega arith;
  others = λ d other. refl;
  talks = λ a d talks. talks;
}
rings-all qs k c (m ∷ ms) as' waits linked known idle once =
    let next : List Agent = with_state_at m.agent (Ringing k c) as' in
    let here : m.agent < length as' = All-head (λ (member : Member). member.agent < length as') m ms known in
    rings-more qs k c m as' (all_ringing k c ms next) (length ms) here
    (All-head (λ (member : Member). is_idle (state_at as' member.agent) ≡ true) m ms idle)
    (rings-all qs k c ms next waits (linked-set qs as' linked m.agent (Ringing k c) here waits (λ d talks. absurd (cc)))
    (subst (λ count. AreKnown count ms) (sym (length-changed_at _ m.agent as')) (All-tail (λ (member : Member). member.agent < length as') m ms known))
    (idle-others m.agent (Ringing k c) as' ms (pairs-head (λ (member : Member) (other : Member). member.agent ≢ other.agent) m ms once)
    (All-tail (λ (member : Member). is_idle (state_at as' member.agent) ≡ true) m ms idle))
    (pairs-tail (λ (member : Member) (other : Member). member.agent ≢ other.agent) m ms once))

-- an offer is made
pub kept-offered : (seats new : SeatsOf) (qs ps : List QueueOf) (as' bs : List Agent) (asked : OfferRequest) (count : ℕ)
    → AreKept seats qs as' → IsAsked qs as' asked
    → bs ≡ all_ringing asked.queue asked.channel (chosen_in as' asked.penalty (slice_get qs asked.queue)) as'
    → count ≡ length (chosen_in as' asked.penalty (slice_get qs asked.queue))
    → ps ≡ changed_at (with_choice as' asked.penalty) asked.queue qs
    → ReplacesSeat asked.channel (Some (record { queue = asked.queue; rung = count })) seats new → ReplacesTalk asked.channel None seats new
    → AreKept new ps bs
kept-offered seats new qs ps as' bs asked count kept is_asked rung counted chose put talk =
    kept-same new new qs ps bs (
      all.linked,
      seated-replaced seats new qs qs as' bs asked.channel (Some (record { queue = asked.queue; rung = count })) kept.1 put
          ((λ i. Some (record { queue = asked.queue; rung = same_count i })) ∙ ap (option_map (seat_in bs asked.channel)) (sym waits))
          (λ d other. refl) all.others,
      found-replaced seats new as' bs asked.channel None talk (λ a talks. absurd (nobody_talks a (all.talks a asked.channel talks)))
          (λ a d other talks. all.talks a d talks) kept.2,
    )
    (ap length chose ∙ length-changed_at change asked.queue qs)
    (ap lines chose ∙ lines-changed_at change asked.queue qs (λ q. refl))
    (members-changed change asked.queue qs ps bs (keeps-same change (λ q. refl)) chose all.linked.members)
  where
    change : QueueOf → QueueOf
    change = with_choice as' asked.penalty

    is_chosen : chosen_in as' asked.penalty (slice_get qs asked.queue) ≡ chosen_of as' asked.penalty is_asked.queue
    is_chosen = ap (chosen_in as' asked.penalty) is_asked.at

    known : AreKnown (length as') (chosen_of as' asked.penalty is_asked.queue)
    known = all-choices_of (λ (member : Member). member.agent < length as') is_asked.queue.settings.strategy is_asked.queue.last
        (is_candidate as' asked.penalty) is_asked.queue.members
        (all-at (λ (q : QueueOf). AreKnown (length as') q.members) qs asked.queue is_asked.queue is_asked.at kept.0.members.are_agents)

    idle : All (λ (m : Member). is_idle (state_at as' m.agent) ≡ true) (chosen_of as' asked.penalty is_asked.queue)
    idle = All-weaker (λ (m : Member). is_candidate as' asked.penalty m ≡ true) (λ (m : Member). is_idle (state_at as' m.agent) ≡ true)
        (λ m may. candidate-idle as' asked.penalty m may)
        (chosen_of as' asked.penalty is_asked.queue)
        (passes-choices_of is_asked.queue.settings.strategy is_asked.queue.last (is_candidate as' asked.penalty) is_asked.queue.members)

    once : StandOnce (chosen_of as' asked.penalty is_asked.queue)
    once = once-choices_of is_asked.queue.settings.strategy is_asked.queue.last (is_candidate as' asked.penalty) is_asked.queue.members
        (all-at (λ (q : QueueOf). StandOnce q.members) qs asked.queue is_asked.queue is_asked.at kept.0.members.stand_once)

    waits : waits_in qs asked.channel ≡ Some asked.queue
    waits = asked-waits qs as' as' asked kept.0 is_asked

    all : Rings qs asked.channel as' bs (length (chosen_of as' asked.penalty is_asked.queue))
    all = let P : List Agent → Type 0 = λ xs. Rings qs asked.channel as' xs (length (chosen_of as' asked.penalty is_asked.queue)) in
        subst P (sym (rung ∙ ap (λ ms. all_ringing asked.queue asked.channel ms as') is_chosen))
        (rings-all qs asked.queue asked.channel (chosen_of as' asked.penalty is_asked.queue) as' waits kept.0 known idle once)

    nobody_talks : (a : ℕ) → talks_with asked.channel (state_at as' a) ≡ true → ⊥
    nobody_talks a talks =
        let none : talks_with asked.channel (state_at as' a) ≡ false =
        right-untalked qs asked.channel asked.queue (state_at as' a) waits (kept.0.rings_right a) in cc

    nobody : rung_count as' asked.channel ≡ 0
    nobody = eqb-true (rung_count as' asked.channel) 0 (rung-none as' asked.channel ∙ ap (λ (b : Bool). not b) is_asked.unrung)

    same_count : count ≡ rung_count bs asked.channel
    same_count = omega (arith, counted, ap length is_chosen, all.counted, nobody)

-- the first passing element of two lists
pub find-front : {X : Type 0} (p : X → Bool) (xs ys : List X) (x : X) → Some x ≡ find p xs → Some x ≡ find p (xs ++ ys)
find-front p [] ys x e = absurd (cc)
find-front p (z ∷ xs) ys x e = by (p z) (find-front p xs ys x) e
  where
    by : (b : Bool) → (Some x ≡ find p xs → Some x ≡ find p (xs ++ ys)) → Some x ≡ (if b then Some z else find p xs)
        → Some x ≡ (if b then Some z else find p (xs ++ ys))
    by true rest e = e
    by false rest e = rest e

pub find-back : {X : Type 0} (p : X → Bool) (xs ys : List X) (o : Option X) → None ≡ find p xs → o ≡ find p ys → o ≡ find p (xs ++ ys)
find-back p [] ys o e found = found
find-back p (z ∷ xs) ys o e found = by (p z) (λ e. find-back p xs ys o e found) e
  where
    by : (b : Bool) → (None ≡ find p xs → o ≡ find p (xs ++ ys)) → None ≡ (if b then Some z else find p xs)
        → o ≡ (if b then Some z else find p (xs ++ ys))
    by true rest e = absurd (cc)
    by false rest e = rest e
