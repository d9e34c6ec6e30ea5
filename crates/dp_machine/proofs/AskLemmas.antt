-- The event of a channel at an index of the list of channels.
use Rattle.std.proofs.Common.{◌≡◌, ℕ, ◌+◌, ◌-◌, ◌<◌, ◌==◌, Bool, true, false, List, Some, None, Result, Ok, Err, OnOk, get_or, length, slice_get, slice_set, if◌then◌else◌, refl, sym, ap, ◌∙◌, arith, subst}
use Rattle.std.proofs.lemmas.List.{set-get_or}
use Rattle.std.proofs.lemmas.Option.{same_Some, slice_get_read}
use Rattle.std.specs.declared.alloc.AllocError.{AllocError as NoMemory}
use Rattle.dp_app.specs.Rows.{Meanings}
use Rattle.dp_machine.specs.Events.{Own, asked_event, own_event, own_row, world_with_own, is_refused_at_once}
use Rattle.dp_machine.specs.steps.Follows.{Follows, Makes}
use Rattle.dp_machine.specs.GoodWorld.{IsGoodWorld, IsSoundAsked, IsSoundAfter, MayAct}
use Rattle.dp_machine.specs.World.{World, channel_at, world_in, world_of}
use Rattle.dp_machine.specs.declared.channel_event.ChannelEvent.{ChannelEvent}
use Rattle.dp_machine.specs.declared.channel.Channel.{Channel}
use Rattle.dp_machine.specs.declared.exchange.Exchange.{Exchange}
use Rattle.dp_machine.specs.declared.reply.Reply.{Reply}
use Rattle.dp_machine.proofs.TieLemmas.{may_act}
use borrow.Author.Tests.{eqb-true}

module _ (before : Exchange) (channels : List Channel) (number index : ℕ) (c : Channel)
    (at : index + 1 ≡ number) (within : index < length channels) (value : c ≡ get_or channels index c) where
  before_number : number - 1 ≡ index
  before_number = omega (arith, at)

  -- the channel at the index has the number
  here : channel_at channels number ≡ Some c
  here = by (number == 0) refl
    where
      by : (b : Bool) → (number == 0) ≡ b → (if b then None else slice_get channels (number - 1)) ≡ Some c
      by true zero_is = let none : number ≡ 0 = eqb-true number 0 zero_is in absurd (omega (arith, none, at))
      by false other = ap (slice_get channels) before_number ∙ slice_get_read channels (length channels) index c refl within value

  -- it may act in a good world
  pub acts-at : IsGoodWorld (world_in before channels) → MayAct before.shared number c
  acts-at good = may_act (world_in before channels) number c good here

  -- if the channel is unchanged, writing it back changes nothing
  kept-at : (d : Channel) → d ≡ c → slice_set channels index d ≡ channels
  kept-at d same = ap (slice_set channels index) (same ∙ value) ∙ set-get_or channels index c

  module _ (meanings : Meanings) (asked : ChannelEvent) (d : Channel) (after : Exchange) where
    -- the world before the event
    abbrev w : World
    w = world_in before channels

    -- the world after it
    abbrev beyond : World
    beyond = world_in after (slice_set channels index d)

    -- its row, for the channel
    abbrev own : Own
    own = own_row meanings asked before.plan before.shared number c

    -- its row, for the world
    asked_here : asked_event meanings w number asked ≡ world_with_own w number own
    asked_here = ap (own_event w number (own_row meanings asked)) here

    -- what the row says of the channel carries over to the world
    pub makes-at : (r : Result Reply NoMemory) → Follows own before after c d r → Makes (asked_event meanings w number asked) w beyond r
    makes-at (Ok reply) follows = record {
      ok =
          let written : slice_set channels (number - 1) d ≡ slice_set channels index d = ap (λ i. slice_set channels i d) before_number in
          let world : world_of before.plan (slice_set channels (number - 1) d) after.shared ≡ beyond
          = (λ i. world_of (sym follows.plan i) (written i) after.shared) in
          asked_here ∙ (ap (world_with_own w number) follows.ok ∙ ap (λ (v : World). (v, reply)) world);
      err = tt;
      refused = tt;
    }
    makes-at (Err e) follows = record {
      ok = tt;
      err = λ i. world_of (follows.plan i) (kept-at d follows.channel i) (follows.shared i);
      refused = ap (λ o. is_refused_at_once o.1) asked_here ∙ follows.refused;
    }

    -- after a step the channel is sound
    pub sound-at : (r : Result Reply NoMemory) → Follows own before after c d r → IsSoundAfter asked d → OnOk r (IsSoundAsked meanings w number asked)
    sound-at (Ok reply) follows sound = λ e found.
        let is : c ≡ e = same_Some c e (sym here ∙ found) in
        subst (λ x. IsSoundAfter asked (own_row meanings asked before.plan before.shared number x).channel) is
        (subst (λ (o : Own). IsSoundAfter asked o.channel) (sym follows.ok) sound)
    sound-at (Err x) follows sound = tt
