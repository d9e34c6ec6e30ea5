-- One more call in a log.
use Rattle.std.proofs.Common.{◌≡◌, ℕ, ◌+◌, ◌<◌, subst, List, [], ◌∷◌, ◌++◌, sym, ap, ◌∙◌}
use Rattle.std.proofs.lemmas.List.{map-append}
use Rattle.std.proofs.lemmas.List.Elements.{All-push}
use Rattle.dp_app.specs.Rows.{Meanings}
use Rattle.dp_machine.specs.Events.{event_row}
use Rattle.dp_machine.specs.Replay.{world_after, replies_to}
use Rattle.dp_machine.specs.World.{World}
use Rattle.dp_machine.proofs.ReplayLemmas.{replies_to-push, world_after-push}
use Rattle.dp_machine.specs.declared.reply.Reply.{Reply}
use Rattle.dp_board.specs.Log.{Log, Replays, IsRow, AreSeated, events_in, replies_in}
use Rattle.dp_board.specs.declared.entry.Entry.{Entry}

-- a log that replays, and one more event with its entry
pub Replays-push : (meanings : Meanings) (first : World) (old new : Log) (entry : Entry) → Replays meanings first old → IsRow meanings old entry.event entry.reply new → new.entries ≡ old.entries ++ entry ∷ [] → Replays meanings first new
Replays-push meanings first old new entry before row entries =
    let events = events_in old.entries in
    let events_are : events_in new.entries ≡ events ++ entry.event ∷ [] = ap events_in entries ∙ map-append (λ (e : Entry). e.event) old.entries (entry ∷ []) in
    let replies_are : replies_in new.entries ≡ replies_in old.entries ++ entry.reply ∷ [] = ap replies_in entries ∙ map-append (λ (e : Entry). e.reply) old.entries (entry ∷ []) in
    let met : event_row meanings (world_after meanings first events) entry.event ≡ (new.world, entry.reply) = ap (λ w. event_row meanings w entry.event) (sym before.world) ∙ row in
    record {
      world = sym (ap (λ (p : World × Reply). p.0) met) ∙ (sym (world_after-push meanings first events entry.event) ∙ ap (world_after meanings first) (sym events_are));
      replies =
          replies_are
          ∙ (ap (λ rs. rs ++ entry.reply ∷ []) before.replies
          ∙ (ap (λ (r : Reply). replies_to meanings first events ++ r ∷ []) (sym (ap (λ (p : World × Reply). p.1) met))
          ∙ (sym (replies_to-push meanings first events entry.event) ∙ ap (replies_to meanings first) (sym events_are))));
    }

-- one more call of one of the seats
pub AreSeated-push : (parts : ℕ) (old new : List Entry) (entry : Entry) → AreSeated parts old → entry.seat + 1 < parts → new ≡ old ++ entry ∷ [] → AreSeated parts new
AreSeated-push parts old new entry before seat entries =
    subst (AreSeated parts) (sym entries) (All-push (λ (e : Entry). e.seat + 1 < parts) old entry before seat)
