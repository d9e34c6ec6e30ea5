-- The replies to a list of events with one more at its end.
use Rattle.std.proofs.Common.{suc, ◌≡◌, ℕ, ◌+◌, ◌-◌, ◌≤◌, List, [], ◌∷◌, ◌++◌, length, take, refl, ap, ◌∙◌, arith}
use Rattle.std.proofs.lemmas.List.{length-append, length-take-le}
use Rattle.std.proofs.lemmas.List.Sums.{fold-append}
use Rattle.dp_app.specs.Rows.{Meanings}
use Rattle.dp_machine.specs.Events.{event_row}
use Rattle.dp_machine.specs.World.{World}
use Rattle.dp_machine.specs.Replay.{final_world, world_after, replies_to, RanFirst}
use Rattle.dp_machine.specs.declared.event.Event.{Event}
use Rattle.dp_machine.specs.declared.reply.Reply.{Reply}

-- each event has one reply
pub length-replies_to : (meanings : Meanings) (w : World) (events : List Event) → length (replies_to meanings w events) ≡ length events
length-replies_to meanings w [] = refl
length-replies_to meanings w (event ∷ events) = ap (λ n. suc n) (length-replies_to meanings (final_world meanings w event) events)

-- the last event meets the world after the others
pub replies_to-push : (meanings : Meanings) (w : World) (events : List Event) (event : Event)
    → replies_to meanings w (events ++ event ∷ []) ≡ replies_to meanings w events ++ (event_row meanings (world_after meanings w events) event).1 ∷ []
replies_to-push meanings w [] event = refl
replies_to-push meanings w (e ∷ events) event =
    ap (λ (later : List Reply). (event_row meanings w e).1 ∷ later) (replies_to-push meanings (final_world meanings w e) events event)

pub world_after-push : (meanings : Meanings) (w : World) (events : List Event) (event : Event)
    → world_after meanings w (events ++ event ∷ []) ≡ final_world meanings (world_after meanings w events) event
world_after-push meanings w events event = fold-append (final_world meanings) w events (event ∷ [])

-- the run so far, in the words of its contract
pub RanFirst-so_far : (meanings : Meanings) (w : World) (events : List Event) (old new : List Reply) (after : World) (count : ℕ) → count ≤ length events
    → new ≡ old ++ replies_to meanings w (take count events) → after ≡ world_after meanings w (take count events) → RanFirst meanings w events old new after
RanFirst-so_far meanings w events old new after count within replies world =
    let taken : length (take count events) ≡ count = length-take-le count events within in
    let len : length new ≡ length old + count = ap length replies ∙ (length-append old (replies_to meanings w (take count events)) ∙ ap (λ n. length old + n) (length-replies_to meanings w (take count events) ∙ taken)) in
    let same : count ≡ length new - length old = omega (arith, len) in
    record {
      within = omega (arith, len);
      replies = replies ∙ ap (λ n. old ++ replies_to meanings w (take n events)) same;
      world = world ∙ ap (λ n. world_after meanings w (take n events)) same;
    }
