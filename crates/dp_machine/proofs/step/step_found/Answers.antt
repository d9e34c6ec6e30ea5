use Rattle.std.proofs.Common.{◌≤◌, ap, refl, subst}
use Rattle.dp_conf.specs.Numbers.{most_priority}
use Rattle.dp_app.specs.declared.place.Place.{Place}
use Rattle.dp_app.specs.Rows.{with_functions}
use Rattle.dp_machine.specs.Events.{Applied}
use Rattle.dp_machine.specs.Seen.{arguments_seen}
use Rattle.dp_machine.proofs.LookupLemmas.{found_there, stands_there, within_most}
use Rattle.dp_machine.proofs.StepLemmas.{follows-found, ready_may_run, went_sound}
use Rattle.dp_machine.proofs.step.step_found.Goals as goal

pub prepared_entry-prepared-requires : goal.prepared_entry-prepared-requires
prepared_entry-prepared-requires g c = stands_there c.args.exchange.now.plan c.args.channel.now.place c.args.id c.requires.found

pub run_entry-requires-clause-run : goal.run_entry-requires-clause-run
run_entry-requires-clause-run g c =
    ready_may_run c.args.exchange.now.shared c.args.number c.args.channel.now c.requires.act c.requires.ready
    (within_most c.args.exchange.now.plan c.args.channel.now.place c.args.id c.prepared_entry-prepared.result.entry.now c.requires.found c.prepared_entry-prepared.ensures.entry c.get.ensures.range)

-- its application does not change the channel's place
pub go-requires : goal.go-requires
go-requires g c =
    subst (λ (p : Place). p.priority ≤ most_priority) (ap (λ (a : Applied). a.channel.place) c.in_ok-going.ensures.ok)
    (within_most c.args.exchange.now.plan c.args.channel.now.place c.args.id c.prepared_entry-prepared.result.entry.now c.requires.found c.prepared_entry-prepared.ensures.entry c.get.ensures.range)

pub returns-clause-follows : goal.returns-clause-follows
returns-clause-follows g c =
    follows-found (with_functions g.T.AppTable.rows g.T.Functions.Functions.table) c.args.number c.args.exchange.now (record { plan = c.go.new.plan; shared = c.run_entry.new.shared }) c.args.channel.now c.go.new.channel c.run_entry.new.channel
    c.run_entry.new.shared c.args.id c.prepared_entry-prepared.result.entry.now c.in_ok-going.going
    (found_there c.args.exchange.now.plan c.args.channel.now.place c.args.id c.prepared_entry-prepared.result.entry.now c.requires.found c.prepared_entry-prepared.ensures.entry)
    c.in_ok-going.ensures.ok c.go.ensures.channel c.go.ensures.same refl

pub returns-clause-sound : goal.returns-clause-sound
returns-clause-sound g c =
    went_sound g.T.AppTable.touches g.T.AppTable.rows g.T.AppTable.lawful c.args.exchange.now.plan c.prepared_entry-prepared.result.entry.now.application
    (arguments_seen g.T.Functions.Functions.table c.args.exchange.now.shared c.args.number c.args.channel.now c.prepared_entry-prepared.result.entry.now.arguments)
    c.args.exchange.now.shared c.args.number c.args.channel.now
    (within_most c.args.exchange.now.plan c.args.channel.now.place c.args.id c.prepared_entry-prepared.result.entry.now c.requires.found c.prepared_entry-prepared.ensures.entry c.get.ensures.range)
    (record { channel = c.run_entry.new.channel; shared = c.run_entry.new.shared; going = c.in_ok-going.going })
    c.in_ok-going.ensures.ok c.go.new.channel c.go.ensures.channel
