use Rattle.std.proofs.Common.{subst, arith}
use Rattle.dp_app.specs.Rows.{with_functions}
use Rattle.dp_machine.specs.declared.event.Event.TheVariants.{Step as step}
use Rattle.dp_board.specs.Attending.{IsEnd, calls_since}
use Rattle.dp_board.specs.Sittings.{call_of}
use Rattle.dp_board.proofs.StepsLemmas.{AddsSteps-more, GoesOnAfter-more, GoesOnToLast-all, GoesOnToLast-more, IsReason-end, count-more, last-more}
use Rattle.dp_board.proofs.board.Board.attend.Goals as goal

pub returns-in-Some-clause-why : goal.returns-in-Some-clause-why
returns-in-Some-clause-why g c =
    let place = c.in_ok-_place._place in
    let reply = c.in_ok-_place._reply in
    let told = call_of place (step c.args.channel) reply in
    let meanings = with_functions g.T.AppTable.rows g.T.Functions.Functions.table in
    let first = g.S.Session.opening in
    IsReason-end meanings first c.args.channel c.args.turns c.in-Some.why told (calls_since c.args.seat.now c.turn.new.seat)
    (subst (IsEnd meanings first c.args.channel told) c.in-Some.is c.in_ok-_place.ensures.end)
    (last-more c.args.channel c.args.seat.now c.loop-turn.seat c.turn.new.seat place reply c.loop-turn.invariant.steps c.in_ok-_place.ensures.ok)

pub returns-in-Some-clause-steps : goal.returns-in-Some-clause-steps
returns-in-Some-clause-steps g c =
    AddsSteps-more c.args.channel c.args.seat.now c.loop-turn.seat c.turn.new.seat c.in_ok-_place._place c.in_ok-_place._reply c.loop-turn.invariant.steps c.in_ok-_place.ensures.ok

pub returns-in-Some-clause-on : goal.returns-in-Some-clause-on
returns-in-Some-clause-on g c =
    GoesOnToLast-more (with_functions g.T.AppTable.rows g.T.Functions.Functions.table) g.S.Session.opening c.args.channel c.args.seat.now c.loop-turn.seat c.turn.new.seat c.in_ok-_place._place c.in_ok-_place._reply c.loop-turn.invariant.steps c.in_ok-_place.ensures.ok c.loop-turn.invariant.on

pub returns-clause-on : goal.returns-clause-on
returns-clause-on g c = GoesOnToLast-all (with_functions g.T.AppTable.rows g.T.Functions.Functions.table) g.S.Session.opening c.args.channel (calls_since c.args.seat.now c.loop-turn.seat) c.loop-turn.invariant.on

pub loop-turn-preserved : goal.loop-turn-preserved
loop-turn-preserved g c =
    let place = c.in_ok-_place._place in
    let reply = c.in_ok-_place._reply in
    let one = c.in_ok-_place.ensures.ok in
    let meanings = with_functions g.T.AppTable.rows g.T.Functions.Functions.table in
    let first = g.S.Session.opening in
    record {
      steps = AddsSteps-more c.args.channel c.args.seat.now c.loop-turn.seat c.turn.new.seat place reply c.loop-turn.invariant.steps one;
      count = omega (arith, c.loop-turn.invariant.count, count-more c.args.channel c.loop-turn.seat c.turn.new.seat place reply one);
      on = GoesOnAfter-more meanings first c.args.channel c.args.seat.now c.loop-turn.seat c.turn.new.seat place reply c.loop-turn.invariant.steps one c.loop-turn.invariant.on
          (subst (IsEnd meanings first c.args.channel (call_of place (step c.args.channel) reply)) c.in_default.is c.in_ok-_place.ensures.end);
    }
