use Rattle.std.proofs.Common.{get_or, ◌≡◌, ◌+◌, ◌∷◌, ◌++◌, [], take, sym, ap, ◌∙◌, arith}
use Rattle.std.proofs.lemmas.List.{take_more, append_assoc}
use Rattle.dp_app.specs.Rows.{with_functions}
use Rattle.dp_machine.specs.Replay.{replies_to, world_after}
use Rattle.dp_machine.specs.Events.{event_row}
use Rattle.dp_machine.specs.World.{World}
use Rattle.dp_machine.specs.declared.reply.Reply.{Reply}
use Rattle.dp_machine.proofs.ReplayLemmas.{RanFirst-so_far, replies_to-push, world_after-push}
use Rattle.dp_machine.proofs.machine.Machine.run.Goals as goal

pub returns-in_err-reserve-clause-first : goal.returns-in_err-reserve-clause-first
returns-in_err-reserve-clause-first g c =
    RanFirst-so_far (with_functions g.T.AppTable.rows g.T.Functions.Functions.table) c.args.self.now c.args.events.now c.args.replies.now.items c.reserve.new.self.items c.loop-event.self c.loop-event.event-index (omega arith) (c.in_err-reserve.ensures.items ∙ c.loop-event.invariant.replies) c.loop-event.invariant.world

pub returns-in_err-reply-clause-first : goal.returns-in_err-reply-clause-first
returns-in_err-reply-clause-first g c =
    RanFirst-so_far (with_functions g.T.AppTable.rows g.T.Functions.Functions.table) c.args.self.now c.args.events.now c.args.replies.now.items c.reserve.new.self.items c.apply_kept.new.self c.loop-event.event-index (omega arith) (c.in_ok-reserve.ensures.items ∙ c.loop-event.invariant.replies) (c.in_err-reply.ensures.err ∙ c.loop-event.invariant.world)

pub returns-clause-first : goal.returns-clause-first
returns-clause-first g c =
    RanFirst-so_far (with_functions g.T.AppTable.rows g.T.Functions.Functions.table) c.args.self.now c.args.events.now c.args.replies.now.items c.loop-event.replies.items c.loop-event.self c.loop-event.event-index (omega arith) c.loop-event.invariant.replies c.loop-event.invariant.world

pub loop-event-preserved : goal.loop-event-preserved
loop-event-preserved g c =
    let meanings = (with_functions g.T.AppTable.rows g.T.Functions.Functions.table) in
    let w = c.args.self.now in
    let events = c.args.events.now in
    let i = c.loop-event.event-index in
    let event = c.event-item.result in
    let there : get_or events i event ≡ event = sym c.event-item.is in
    let more : take (i + 1) events ≡ take i events ++ event ∷ [] = take_more events i event c.loop-event-test.true ∙ ap (λ e. take i events ++ e ∷ []) there in
    let ran = c.in_ok-reply.ensures.ok in
    let met : event_row meanings (world_after meanings w (take i events)) event ≡ event_row meanings c.loop-event.self event = ap (λ s. event_row meanings s event) (sym c.loop-event.invariant.world) in
    let pushed = rw c.unwrap.ensures at c.push.ensures.items in
    record {
      replies =
          pushed
          ∙ (ap (λ rs. rs ++ c.in_ok-reply.reply ∷ []) (c.in_ok-reserve.ensures.items ∙ c.loop-event.invariant.replies)
          ∙ (append_assoc c.args.replies.now.items (replies_to meanings w (take i events)) (c.in_ok-reply.reply ∷ [])
          ∙ ap (λ rs. c.args.replies.now.items ++ rs)
          (ap (λ (r : Reply). replies_to meanings w (take i events) ++ r ∷ []) (sym (ap (λ (p : World × Reply). p.1) (met ∙ ran)))
          ∙ (sym (replies_to-push meanings w (take i events) event) ∙ ap (replies_to meanings w) (sym more)))));
      world =
          sym (ap (λ (p : World × Reply). p.0) (met ∙ ran))
          ∙ (sym (world_after-push meanings w (take i events) event) ∙ ap (world_after meanings w) (sym more));
    }
