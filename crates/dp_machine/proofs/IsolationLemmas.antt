-- Two worlds that differ only in one channel: any event of another channel gives the same reply in both, and they still differ only in this
-- channel.
use Rattle.std.proofs.Common.{◌≡◌, ℕ, zero, suc, ◌+◌, ◌-◌, ◌==◌, nat_lt, Bool, true, false, not, List, [], ◌∷◌, ◌++◌, Option, Some, None, length, map, slice_get, if◌then◌else◌, refl, sym, ap, subst, ◌∙◌, arith, filter, zip, get_or, drop}
use Rattle.std.specs.Prelude.{◌≢◌}
use Rattle.std.proofs.lemmas.List.{length-append}
use Rattle.dp_plan.specs.Loaded.{plan_and_notes}
use Rattle.dp_plan.specs.Plan.{PlanOf}
use Rattle.dp_vars.specs.Functions.{FunctionTable}
use Rattle.dp_app.specs.Rows.{Meanings}
use Rattle.dp_machine.specs.Channels.{after_change}
use Rattle.dp_machine.specs.Events.{Own, Served, agent_done, agent_event, serve_answer, serve_decline, dial_result_row, digit_row, world_with_call, event_row, hang_up_row, serve_offer, new_channel, own_event, poll_row, served_channels, start_call, step_row, timeout_row, assign_row, redirect_row, with_shared_global}
use Rattle.dp_machine.specs.Isolation.{AreSameBut, IsUnseen, IsPrivate, is_of, replies_without, without}
use Rattle.dp_machine.specs.Reloading.{plan_in, reloaded_by, shared_with}
use Rattle.dp_machine.specs.Replay.{replies_to, world_after, final_world}
use Rattle.dp_machine.specs.World.{World, channel_at, most_channels, with_channel, world_of}
use Rattle.dp_machine.specs.declared.channel.Channel.{Channel}
use Rattle.dp_machine.specs.declared.event.Event.{Event}
use Rattle.dp_machine.specs.declared.event.Event.TheVariants.{Start, Step, Digit, Timeout, Poll, Hangup, DialResult, Offer, Answer, Decline, AgentDone, Reload, Assign, Redirect}
use Rattle.dp_machine.specs.declared.refusal.Refusal.TheVariants.{NumbersSpent}
use Rattle.dp_machine.specs.declared.reply.Reply.{Reply}
use Rattle.dp_machine.specs.declared.reply.Reply.TheVariants.{Refused, Started}
use Rattle.dp_machine.specs.declared.shared_state.SharedState.{SharedState}
use Rattle.dp_machine.proofs.TieLemmas.{apart, by_number, channel_at-other, channel_at-same, length-set_at}
use borrow.Author.Tests.{eqb-true}

-- equally many channels, and the same ones except for that with a number
record SameOthers (number : ℕ) (xs ys : List Channel) : Type 0 where
  count : length xs ≡ length ys
  others : (other : ℕ) → other ≢ number → channel_at xs other ≡ channel_at ys other

same_all : (number : ℕ) (xs : List Channel) → SameOthers number xs xs
same_all number xs = record { count = refl; others = λ other apart. refl }

same_through : (number : ℕ) (xs ys zs : List Channel) → SameOthers number xs ys → SameOthers number ys zs → SameOthers number xs zs
same_through number xs ys zs first second = record {
  count = first.count ∙ second.count;
  others = λ other apart. first.others other apart ∙ second.others other apart;
}

same_back : (number : ℕ) (xs ys : List Channel) → SameOthers number xs ys → SameOthers number ys xs
same_back number xs ys same = record { count = sym same.count; others = λ other apart. sym (same.others other apart) }

-- numbers that differ do so by the test too
differ : (a b : ℕ) → b ≢ a → (a == b) ≡ false
differ a b apart = by (a == b) refl
  where
    by : (t : Bool) → (a == b) ≡ t → t ≡ false
    by true same = absurd (apart (sym (eqb-true a b same)))
    by false differs = refl

-- the channel with this number is changed
same_own : (xs : List Channel) (number : ℕ) (c d : Channel) → channel_at xs number ≡ Some c → SameOthers number (with_channel xs number d) xs
same_own xs number c d here = record {
  count = length-set_at xs (number - 1) d;
  others = λ other apart. channel_at-other xs number other c d here (differ number other apart);
}

-- another channel is changed in the same way in both
same_both : (number other : ℕ) (xs ys : List Channel) (c d : Channel) → SameOthers number xs ys → channel_at xs other ≡ Some c → channel_at ys other ≡ Some c
    → SameOthers number (with_channel xs other d) (with_channel ys other d)
same_both number other xs ys c d same here there = record {
  count = length-set_at xs (other - 1) d ∙ same.count ∙ sym (length-set_at ys (other - 1) d);
  others = λ m apart. by_number (λ n. channel_at (with_channel xs other d) n ≡ channel_at (with_channel ys other d) n) other m
      (channel_at-same xs other c d here ∙ sym (channel_at-same ys other c d there))
      (λ differs. channel_at-other xs other m c d here differs ∙ (same.others m apart ∙ sym (channel_at-other ys other m c d there differs)));
}

-- one more channel comes in
get-more : (xs ys : List Channel) (i : ℕ) (x : Channel) → length xs ≡ length ys → slice_get xs i ≡ slice_get ys i
    → slice_get (xs ++ x ∷ []) i ≡ slice_get (ys ++ x ∷ []) i
get-more [] [] i x count same = refl
get-more [] (y ∷ ys) i x count same = absurd (omega (arith, count))
get-more (z ∷ xs) [] i x count same = absurd (omega (arith, count))
get-more (z ∷ xs) (y ∷ ys) zero x count same = same
get-more (z ∷ xs) (y ∷ ys) (suc i) x count same = get-more xs ys i x (omega (arith, count)) same

same_more : (number : ℕ) (xs ys : List Channel) (x : Channel) → SameOthers number xs ys → SameOthers number (xs ++ x ∷ []) (ys ++ x ∷ [])
same_more number xs ys x same = record {
  count = length-append xs (x ∷ []) ∙ (ap (λ n. n + 1) same.count ∙ sym (length-append ys (x ∷ [])));
  others = λ other apart. by (other == 0) other (same.others other apart);
}
  where
    by : (b : Bool) (other : ℕ) → (if b then None else slice_get xs (other - 1)) ≡ (if b then None else slice_get ys (other - 1))
        → (if b then None else slice_get (xs ++ x ∷ []) (other - 1)) ≡ (if b then None else slice_get (ys ++ x ∷ []) (other - 1))
    by true other here = refl
    by false other here = get-more xs ys (other - 1) x same.count here

-- an event has the same effect in two worlds that differ only in one channel: the same reply, and they still differ only in this channel
record Alike (number : ℕ) (a b : World × Reply) : Type 0 where
  reply : a.1 ≡ b.1
  world : AreSameBut number a.0 b.0

same_worlds : (number : ℕ) (plan : PlanOf) (shared : SharedState) (xs ys : List Channel) → SameOthers number xs ys
    → AreSameBut number (world_of plan xs shared) (world_of plan ys shared)
same_worlds number plan shared xs ys same = record { plan = refl; shared = refl; count = same.count; others = same.others }

module _ (number : ℕ) (plan : PlanOf) (shared : SharedState) (xs ys : List Channel) (same : SameOthers number xs ys) where
  abbrev v : World
  v = world_of plan xs shared

  abbrev w : World
  w = world_of plan ys shared

  -- a call comes in
  alike-start_call : (context exten caller : List ℕ) → Alike number (world_with_call v (start_call xs context exten caller)) (world_with_call w (start_call ys context exten caller))
  unfolding start_call
  alike-start_call context exten caller =
      subst (λ n. Alike number (by_count n xs) (by_count (length ys) ys)) (sym same.count) (by (nat_lt (length ys) most_channels))
    where
      by_test : Bool → ℕ → List Channel → World × Reply
      by_test b n zs = world_with_call (world_of plan zs shared) (if b then (record { channels = zs ++ new_channel context exten caller ∷ []; reply = Started (n + 1) })
          else (record { channels = zs; reply = Refused NumbersSpent }))

      by_count : ℕ → List Channel → World × Reply
      by_count n zs = by_test (nat_lt n most_channels) n zs

      by : (b : Bool) → Alike number (by_test b (length ys) xs) (by_test b (length ys) ys)
      by true = record { reply = refl; world = same_worlds number plan shared _ _ (same_more number xs ys (new_channel context exten caller) same) }
      by false = record { reply = refl; world = same_worlds number plan shared xs ys same }

  -- an event of another channel
  alike-own : (other : ℕ) (row : PlanOf → SharedState → ℕ → Channel → Own) → (other == number) ≡ false
      → Alike number (own_event v other row (channel_at xs other)) (own_event w other row (channel_at ys other))
  alike-own other row differs =
      subst (λ o. Alike number (own_event v other row (channel_at xs other)) (own_event w other row o)) one (by (channel_at xs other) refl (sym one))
    where
      one : channel_at xs other ≡ channel_at ys other
      one = same.others other (apart other number differs)

      by : (o : Option Channel) → channel_at xs other ≡ o → channel_at ys other ≡ o → Alike number (own_event v other row o) (own_event w other row o)
      by None here there = record { reply = refl; world = same_worlds number plan shared xs ys same }
      by (Some c) here there =
          let own : Own = row plan shared other c in
          record { reply = refl; world = same_worlds number plan own.shared _ _ (same_both number other xs ys c own.channel same here there) }

  -- the channels after an event of an agent, which may also change the channel with this number
  same-served : (s : Served) → SameOthers number (served_channels v s (channel_at xs s.who)) (served_channels w s (channel_at ys s.who))
  same-served s = by (s.who == number) refl
    where
      own : (u : World) (o : Option Channel) → channel_at u.channels s.who ≡ o → SameOthers s.who (served_channels u s o) u.channels
      own u None here = same_all s.who u.channels
      own u (Some c) here = same_own u.channels s.who c (after_change u.plan s.change c) here

      here : (u : World) → s.who ≡ number → SameOthers number (served_channels u s (channel_at u.channels s.who)) u.channels
      here u is = subst (λ n. SameOthers n (served_channels u s (channel_at u.channels s.who)) u.channels) is (own u (channel_at u.channels s.who) refl)

      both : (o : Option Channel) → channel_at xs s.who ≡ o → channel_at ys s.who ≡ o → SameOthers number (served_channels v s o) (served_channels w s o)
      both None first second = same
      both (Some c) first second = same_both number s.who xs ys c (after_change plan s.change c) same first second

      by : (b : Bool) → (s.who == number) ≡ b → SameOthers number (served_channels v s (channel_at xs s.who)) (served_channels w s (channel_at ys s.who))
      by true is =
          let who : s.who ≡ number = eqb-true s.who number is in
          same_through number _ xs _ (here v who) (same_through number xs ys _ same (same_back number _ ys (here w who)))
      by false differs =
          let one : channel_at xs s.who ≡ channel_at ys s.who = same.others s.who (apart s.who number differs) in
          subst (λ o. SameOthers number (served_channels v s (channel_at xs s.who)) (served_channels w s o)) one (both (channel_at xs s.who) refl (sym one))

  -- an event of an agent
  alike-agent : (s : Served) → Alike number (agent_event v s) (agent_event w s)
  alike-agent s = record { reply = refl; world = same_worlds number plan s.shared _ _ (same-served s) }

  -- a reload
  alike-reloaded : (functions : FunctionTable) (plan : Option PlanOf) → Alike number (reloaded_by functions v plan) (reloaded_by functions w plan)
  alike-reloaded functions None = record { reply = refl; world = same_worlds number plan shared xs ys same }
  alike-reloaded functions (Some p) = record { reply = refl; world = same_worlds number p (shared_with functions shared p.globals) xs ys same }

  -- each event that is not of the channel
  alike-row : (meanings : Meanings) (event : Event) → is_of number event ≡ false → Alike number (event_row meanings v event) (event_row meanings w event)
  alike-row meanings (Start context exten caller) other = alike-start_call context exten caller
  alike-row meanings (Step channel) other = alike-own channel (step_row meanings) other
  alike-row meanings (Digit channel digit) other = alike-own channel (digit_row digit) other
  alike-row meanings (Timeout channel) other = alike-own channel timeout_row other
  alike-row meanings (Poll channel) other = alike-own channel poll_row other
  alike-row meanings (Hangup channel) other = alike-own channel hang_up_row other
  alike-row meanings (DialResult channel status) other = alike-own channel (dial_result_row status) other
  alike-row meanings (Offer queue) other = alike-agent (serve_offer shared queue)
  alike-row meanings (Answer agent) other = alike-agent (serve_answer shared agent)
  alike-row meanings (Decline agent) other = alike-agent (serve_decline shared agent)
  alike-row meanings (AgentDone agent) other = alike-agent (agent_done shared agent)
  alike-row meanings (Reload text) other = alike-reloaded meanings.functions (plan_in (plan_and_notes text))
  alike-row meanings (Assign None name value) other =
      record { reply = refl; world = same_worlds number plan (with_shared_global shared name value) xs ys same }
  alike-row meanings (Assign (Some channel) name value) other = alike-own channel (assign_row meanings.functions name value) other
  alike-row meanings (Redirect channel place) other = alike-own channel (redirect_row place) other

-- an event that is not of the channel has the same reply in both worlds, and they still differ only in this channel
alike-event : (meanings : Meanings) (number : ℕ) (v w : World) (event : Event) → is_of number event ≡ false → AreSameBut number v w
    → Alike number (event_row meanings v event) (event_row meanings w event)
alike-event meanings number v w event other same =
    subst (λ u. Alike number (event_row meanings v event) (event_row meanings u event)) (λ i. world_of (same.plan i) w.channels (same.shared i))
    (alike-row number v.plan v.shared v.channels w.channels (record { count = same.count; others = same.others }) meanings event other)

-- a channel's own event changes no other channel
own-alone : (w : World) (number other : ℕ) (row : PlanOf → SharedState → ℕ → Channel → Own) → (other == number) ≡ true
    → SameOthers number (own_event w other row (channel_at w.channels other)).0.channels w.channels
own-alone w number other row is =
    subst (λ n. SameOthers n (own_event w other row (channel_at w.channels other)).0.channels w.channels) (eqb-true other number is) (by (channel_at w.channels other) refl)
  where
    by : (o : Option Channel) → channel_at w.channels other ≡ o → SameOthers other (own_event w other row o).0.channels w.channels
    by None here = same_all other w.channels
    by (Some c) here = same_own w.channels other c (row w.plan w.shared other c).channel here

-- what follows from a test that fails
pub none-of : {A : Type 0} → false ≡ true → A
none-of is = absurd (let no : false ≡ true = is in let b : ⊥ = cc in b)

others-alone : (meanings : Meanings) (number : ℕ) (w : World) (event : Event) → is_of number event ≡ true
    → SameOthers number (final_world meanings w event).channels w.channels
others-alone meanings number w (Start context exten caller) is = none-of is
others-alone meanings number w (Step channel) is = own-alone w number channel (step_row meanings) is
others-alone meanings number w (Digit channel digit) is = own-alone w number channel (digit_row digit) is
others-alone meanings number w (Timeout channel) is = own-alone w number channel timeout_row is
others-alone meanings number w (Poll channel) is = own-alone w number channel poll_row is
others-alone meanings number w (Hangup channel) is = own-alone w number channel hang_up_row is
others-alone meanings number w (DialResult channel status) is = own-alone w number channel (dial_result_row status) is
others-alone meanings number w (Offer queue) is = none-of is
others-alone meanings number w (Answer agent) is = none-of is
others-alone meanings number w (Decline agent) is = none-of is
others-alone meanings number w (AgentDone agent) is = none-of is
others-alone meanings number w (Reload text) is = none-of is
others-alone meanings number w (Assign None name value) is = none-of is
others-alone meanings number w (Assign (Some channel) name value) is = own-alone w number channel (assign_row meanings.functions name value) is
others-alone meanings number w (Redirect channel place) is = own-alone w number channel (redirect_row place) is

-- the list without the events of an unseen channel gives the other events the same replies, and the last world differs only in this channel
pub record IsIsolated (meanings : Meanings) (number : ℕ) (v w : World) (events : List Event) : Type 0 where
  pub replies : replies_to meanings v (without number events) ≡ replies_without number events (replies_to meanings w events)
  pub world : AreSameBut number (world_after meanings v (without number events)) (world_after meanings w events)

-- one more event at the front
isolated-more : (meanings : Meanings) (number : ℕ) (v w : World) (event : Event) (events : List Event) → AreSameBut number v w
    → IsUnseen meanings number w (event ∷ events)
    → ((u : World) → AreSameBut number u (final_world meanings w event) → IsIsolated meanings number u (final_world meanings w event) events)
    → IsIsolated meanings number v w (event ∷ events)
isolated-more meanings number v w event events same unseen later = by (is_of number event) refl
  where
    left : List Event
    left = without number events

    told : List (Event × Reply)
    told = filter (λ t. not (is_of number t.0)) (zip events (replies_to meanings (final_world meanings w event) events))

    Says : Bool → Type 0
    Says b = (replies_to meanings v (if not b then event ∷ left else left) ≡ map (λ t. t.1) (if not b then (event, (event_row meanings w event).1) ∷ told else told))
        × AreSameBut number (world_after meanings v (if not b then event ∷ left else left)) (world_after meanings (final_world meanings w event) events)

    of_it : is_of number event ≡ true → Says true
    of_it is =
        let leaves : IsPrivate meanings w event = unseen [] event events refl is in
        let alone : SameOthers number (final_world meanings w event).channels w.channels = others-alone meanings number w event is in
        let rest : IsIsolated meanings number v (final_world meanings w event) events = later v (record {
          plan = same.plan ∙ sym leaves.plan;
          shared = same.shared ∙ sym leaves.shared;
          count = same.count ∙ sym alone.count;
          others = λ other apart. same.others other apart ∙ sym (alone.others other apart);
        }) in
        (rest.replies, rest.world)

    of_another : is_of number event ≡ false → Says false
    of_another other =
        let alike : Alike number (event_row meanings v event) (event_row meanings w event) = alike-event meanings number v w event other same in
        let rest : IsIsolated meanings number (final_world meanings v event) (final_world meanings w event) events = later (final_world meanings v event) alike.world in
        ((λ i. alike.reply i ∷ rest.replies i), rest.world)

    by : (b : Bool) → is_of number event ≡ b → IsIsolated meanings number v w (event ∷ events)
    by true is =
        let says : Says (is_of number event) = subst Says (sym is) (of_it is) in
        record { replies = says.0; world = says.1 }
    by false other =
        let says : Says (is_of number event) = subst Says (sym other) (of_another other) in
        record { replies = says.0; world = says.1 }

isolated-from : (meanings : Meanings) (number : ℕ) (v w : World) (events : List Event) → AreSameBut number v w → IsUnseen meanings number w events
    → IsIsolated meanings number v w events
isolated-from meanings number v w [] same unseen = record { replies = refl; world = same }
isolated-from meanings number v w (event ∷ events) same unseen = isolated-more meanings number v w event events same unseen
    (λ u alike. isolated-from meanings number u (final_world meanings w event) events alike
    (λ before e after whole is. unseen (event ∷ before) e after (ap (λ es. event ∷ es) whole) is))

-- from any world
pub isolated-from-start : (meanings : Meanings) (w : World) (events : List Event) (number : ℕ) → IsUnseen meanings number w events → IsIsolated meanings number w w events
isolated-from-start meanings w events number unseen = isolated-from meanings number w w events
    (record { plan = refl; shared = refl; count = refl; others = λ other apart. refl }) unseen

-- in a list of no events every channel is unseen
pub unseen-none : (meanings : Meanings) (number : ℕ) (w : World) → IsUnseen meanings number w []
unseen-none meanings number w [] event later whole is = absurd (omega (arith, ap length whole))
unseen-none meanings number w (b ∷ before) event later whole is = absurd (omega (arith, ap length whole))

-- and so with one more event at the front, if the event is private or not of the channel
pub unseen-more : (meanings : Meanings) (number : ℕ) (w : World) (event : Event) (events : List Event)
    → (is_of number event ≡ true → IsPrivate meanings w event) → IsUnseen meanings number (final_world meanings w event) events
    → IsUnseen meanings number w (event ∷ events)
unseen-more meanings number w event events here rest [] e later whole is =
    let same : event ≡ e = ap (λ es. get_or es 0 event) whole in
    subst (IsPrivate meanings w) same (here (ap (is_of number) same ∙ is))
unseen-more meanings number w event events here rest (b ∷ before) e later whole is =
    let same : event ≡ b = ap (λ es. get_or es 0 event) whole in
    subst (λ f. IsPrivate meanings (world_after meanings (final_world meanings w f) before) e) same (rest before e later (ap (drop 1) whole) is)
