use Rattle.std.proofs.Common.{rules, ◌≡◌, get_or}
use Rattle.dp_commands.proofs.DealLemmas.{items_of_seat-own, items_of_seat-passed}
use Rattle.dp_commands.proofs.ThreadsLemmas.{front-of}
use Rattle.dp_commands.proofs.deal.Deal.act_all.Goals as goal
use Rattle.dp_commands.proofs.deal.Deal.act_all.Goals.{then-at-count+in_ok-act_one, else-at-count}

pub returns-in_err-act_one-clause-front : goal.returns-in_err-act_one-clause-front
returns-in_err-act_one-clause-front g c =
    let before = c.loop-at.invariant in
    front-of c.args.count c.loop-at.at c.args.self.events.now c.act_one.new.seat c.args.seat.now.number (search (rules, before.number)) (search (rules, before.told))

pub loop-at-preserved : goal.loop-at-preserved
loop-at-preserved g c =
    let events = c.args.self.events.now in
    let at = c.loop-at.at in
    elim c.if-at-count.branch [
      | then-at-count+in_ok-act_one w ↦
          let event = w.index-events-at.result in
          let there : get_or events at event ≡ event = search rules in
          record {
            number = search rules;
            told = search (rules, items_of_seat-own c.args.count c.args.seat.now.number at events event c.loop-at-test.true there (search rules));
          }
      | else-at-count w ↦
          record {
            number = search rules;
            told = search (rules, items_of_seat-passed c.args.count c.args.seat.now.number at events c.loop-at-test.true (search rules));
          }
    ]
