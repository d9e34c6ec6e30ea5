use Rattle.std.proofs.Common.{arith}
use Rattle.dp_app.specs.Rows.{with_functions}
use Rattle.dp_machine.proofs.AskLemmas.{acts-at, makes-at, sound-at}
use Rattle.dp_machine.proofs.machine.ask.Goals as goal

pub answer_to-requires : goal.answer_to-requires
answer_to-requires g c =
    acts-at c.args.exchange.now c.args.channels.now.items c.args.number c.in-Some.index c.index_mut-channel.result.now
    c.in-Some.ensures.index.0 (omega (arith, c.in-Some.ensures.index.1, c.len.ensures)) c.index_mut-channel.ensures.value c.requires

pub returns-clause-makes : goal.returns-clause-makes
returns-clause-makes g c =
    makes-at c.args.exchange.now c.args.channels.now.items c.args.number c.in-Some.index c.index_mut-channel.result.now
    c.in-Some.ensures.index.0 (omega (arith, c.in-Some.ensures.index.1, c.len.ensures)) c.index_mut-channel.ensures.value
    (with_functions g.T.AppTable.rows g.T.Functions.Functions.table) c.args.asked c.answer_to.new.channel c.answer_to.new.exchange c.answer_to.result c.answer_to.ensures.follows

pub returns-clause-sound : goal.returns-clause-sound
returns-clause-sound g c =
    sound-at c.args.exchange.now c.args.channels.now.items c.args.number c.in-Some.index c.index_mut-channel.result.now
    c.in-Some.ensures.index.0 (omega (arith, c.in-Some.ensures.index.1, c.len.ensures)) c.index_mut-channel.ensures.value
    (with_functions g.T.AppTable.rows g.T.Functions.Functions.table) c.args.asked c.answer_to.new.channel c.answer_to.new.exchange c.answer_to.result c.answer_to.ensures.follows c.answer_to.ensures.sound
