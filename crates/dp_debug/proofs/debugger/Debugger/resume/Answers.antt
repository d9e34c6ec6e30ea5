use Rattle.std.proofs.Common.{◌≡◌, ◌+◌, List, ◌++◌, ◌∷◌, [], get_or, subst, ap, ◌∙◌}
use Rattle.dp_app.specs.Rows.{with_functions}
use Rattle.dp_machine.specs.Events.{event_row}
use Rattle.dp_machine.specs.World.{World}
use Rattle.dp_machine.specs.declared.reply.Reply.{Reply}
use Rattle.dp_debug.specs.Cut.{IsRun}
use Rattle.dp_debug.proofs.CutLemmas.{IsRun-after}
use Rattle.dp_debug.proofs.debugger.Debugger.resume.Goals as goal

pub returns-in-Ok-clause-on : goal.returns-in-Ok-clause-on
returns-in-Ok-clause-on g c = λ within.
    let meanings = with_functions g.T.AppTable.rows g.T.Functions.Functions.table in
    let events = c.args.events.now in
    let taken = c.args.taken in
    let event = c.in-Some.event.now in
    let here : event ≡ get_or events taken event = c.in-Some.ensures.lookup.1 in
    let trace : c.take.new.trace.items ≡ c.args.self.now ++ (event_row meanings c.args.machine.now event).1 ∷ [] =
    c.in-Ok.ensures.ok ∙ ap (λ rs. rs ++ (event_row meanings c.args.machine.now event).1 ∷ []) c.self.view_is in
    let world : c.take.new.machine ≡ (event_row meanings c.args.machine.now event).0 = c.in-Ok.ensures.world in
    IsRun-after meanings c.args.machine.now events c.args.breaks.now taken event c.args.self.now c.go_on.result c.go_on.new.trace.items c.go_on.new.machine within here
    (subst (λ (now : World). IsRun meanings now events c.args.breaks.now (taken + 1) (taken + 1) (c.args.self.now ++ (event_row meanings c.args.machine.now event).1 ∷ []) c.go_on.result c.go_on.new.trace.items c.go_on.new.machine)
    world
    (subst (λ (old : List Reply). IsRun meanings c.take.new.machine events c.args.breaks.now (taken + 1) (taken + 1) old c.go_on.result c.go_on.new.trace.items c.go_on.new.machine) trace c.go_on.ensures))
