use Rattle.std.proofs.Common.{◌≡◌, ◌+◌, ◌∷◌, ◌++◌, [], subst, sym, ap, ◌∙◌, arith, inl, inr}
use Rattle.std.specs.List.{slice_range}
use Rattle.std.proofs.lemmas.Bool.{cases_lt}
use Rattle.std.proofs.lemmas.List.{append_assoc}
use Rattle.dp_app.specs.Rows.{with_functions}
use Rattle.dp_machine.specs.Events.{event_row}
use Rattle.dp_machine.specs.Replay.{replies_to, world_after, final_world}
use Rattle.dp_machine.specs.World.{World}
use Rattle.dp_machine.proofs.ReplayLemmas.{replies_to-push, world_after-push}
use Rattle.dp_debug.specs.Cut.{IsWhy, first_at}
use Rattle.dp_debug.proofs.CutLemmas.{IsWhy-later, first_at-here, range-next}
use Rattle.dp_debug.proofs.debugger.go_on.Goals as goal

pub returns-in-Some : goal.returns-in-Some
returns-in-Some g c =
    let first = first_at-here (with_functions g.T.AppTable.rows g.T.Functions.Functions.table) c.args.machine.now c.loop-taken.machine c.args.rest.events.now c.args.rest.from c.args.breaks.now c.loop-taken.taken
    c.index-events-taken.result c.loop-taken-test.true c.index-events-taken.is c.loop-taken.invariant.world in
    record {
      begun = c.loop-taken.auto.taken;
      within = omega arith;
      world = c.in-Some.ensures.same_world ∙ c.loop-taken.invariant.world;
      replies = c.in-Some.ensures.same_trace ∙ c.loop-taken.invariant.replies;
      none = c.loop-taken.invariant.none;
      why = IsWhy-later _ c.args.rest.from c.loop-taken.taken _ c.in-Some.why c.loop-taken.auto.taken
          (subst (λ f. IsWhy 1 0 0 f c.in-Some.why) (sym first) c.in-Some.ensures.why);
    }

pub loop-taken-preserved : goal.loop-taken-preserved
loop-taken-preserved g c =
    let meanings = with_functions g.T.AppTable.rows g.T.Functions.Functions.table in
    let w = c.args.machine.now in
    let events = c.args.rest.events.now in
    let from = c.args.rest.from in
    let n = c.loop-taken.taken in
    let event = c.index-events-taken.result in
    let so_far = slice_range events from n in
    let more : slice_range events from (n + 1) ≡ so_far ++ event ∷ [] = range-next events from n event c.loop-taken.auto.taken c.loop-taken-test.true c.index-events-taken.is in
    let met : c.loop-taken.machine ≡ world_after meanings w so_far = c.loop-taken.invariant.world in
    let first = first_at-here meanings w c.loop-taken.machine events from c.args.breaks.now n event c.loop-taken-test.true c.index-events-taken.is met in
    record {
      world =
          c.in_default.ensures.world
          ∙ (ap (λ (now : World). final_world meanings now event) met
          ∙ (sym (world_after-push meanings w so_far event) ∙ ap (world_after meanings w) (sym more)));
      replies =
          c.in_default.ensures.trace
          ∙ (ap (λ rs. rs ++ (event_row meanings c.loop-taken.machine event).1 ∷ []) c.loop-taken.invariant.replies
          ∙ (append_assoc c.args.trace.now.items (replies_to meanings w so_far) ((event_row meanings c.loop-taken.machine event).1 ∷ [])
          ∙ ap (λ rs. c.args.trace.now.items ++ rs)
          (ap (λ (now : World). replies_to meanings w so_far ++ (event_row meanings now event).1 ∷ []) met
          ∙ (sym (replies_to-push meanings w so_far event) ∙ ap (replies_to meanings w) (sym more)))));
      none = λ number asked l. elim (cases_lt number n) [
        | inl below ↦ c.loop-taken.invariant.none number asked below
        | inr above ↦ ap (first_at meanings w events from c.args.breaks.now) (omega (arith, l, above)) ∙ (first ∙ c.in_default.ensures.none)
      ];
    }
