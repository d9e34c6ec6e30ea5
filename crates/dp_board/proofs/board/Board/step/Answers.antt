use Rattle.std.proofs.Common.{rules, ◌≡◌, sym, ap, ◌∙◌}
use Rattle.dp_board.specs.Log.{Log, has_ended}
use Rattle.dp_board.proofs.board.Board.step.Goals as goal

pub returns-clause-left : goal.returns-clause-left
returns-clause-left g c =
    let same : c.deref.result.now ≡ c.step.new.self = search rules in
    record {
      before = c.deref_mut.result.now.entries;
      seat = c.args.seat.now.number;
      log = c.step.new.self;
      replays = c.in_ok-place.ensures.replays;
      entries = c.in_ok-place.ensures.logged;
      place = c.in_ok-place.ensures.place;
      state = sym (c.has_ended-has_ended.ensures ∙ ap (λ (log : Log). has_ended log c.args.channel) same);
    }
