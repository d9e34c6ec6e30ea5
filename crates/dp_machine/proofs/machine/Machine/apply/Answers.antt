use Rattle.std.proofs.Common.{◌≡◌, true, IfOk, subst}
use Rattle.dp_app.specs.Rows.{with_functions}
use Rattle.dp_machine.specs.Events.{is_refused}
use Rattle.dp_machine.specs.World.{World, world_in}
use Rattle.dp_machine.proofs.RefusedLemmas.{refused_after}
use Rattle.dp_machine.proofs.TieEvents.{good-after}
use Rattle.dp_machine.proofs.machine.Machine.apply.Goals as goal

pub invariant_of-self : goal.invariant_of-self
invariant_of-self g c =
    good-after g.T.AppTable.touches (with_functions g.T.AppTable.rows g.T.Functions.Functions.table) (world_in c.self.inside.exchange c.self.inside.channels.items)
    (world_in c.apply_to-reply.new.exchange c.apply_to-reply.new.channels.items) c.args.event c.apply_to-reply.result g.T.AppTable.lawful
    c.self.invariant c.apply_to-reply.ensures.makes c.apply_to-reply.ensures.sound c.show_good.ensures

pub returns-clause-good : goal.returns-clause-good
returns-clause-good g c =
    good-after g.T.AppTable.touches (with_functions g.T.AppTable.rows g.T.Functions.Functions.table) (world_in c.self.inside.exchange c.self.inside.channels.items)
    (world_in c.apply_to-reply.new.exchange c.apply_to-reply.new.channels.items) c.args.event c.apply_to-reply.result g.T.AppTable.lawful
    c.self.invariant c.apply_to-reply.ensures.makes c.apply_to-reply.ensures.sound c.show_good.ensures

-- a refused event leaves the world unchanged
pub returns-clause-unchanged : goal.returns-clause-unchanged
returns-clause-unchanged g c =
    let before : World = world_in c.self.inside.exchange c.self.inside.channels.items in
    let after : World = world_in c.apply_to-reply.new.exchange c.apply_to-reply.new.channels.items in
    subst (λ w. IfOk c.apply_to-reply.result (λ reply. is_refused reply ≡ true → after ≡ w)) c.self.view_is
    (refused_after (with_functions g.T.AppTable.rows g.T.Functions.Functions.table) before after c.args.event c.apply_to-reply.result c.apply_to-reply.ensures.makes.ok)
