use Rattle.std.proofs.Common.{rules}
use Rattle.dp_app.specs.Rows.{with_functions}
use Rattle.dp_board.proofs.LogLemmas.{Replays-push, AreSeated-push}
use Rattle.dp_board.specs.declared.entry.Entry.{Entry}
use Rattle.dp_board.proofs.shared.Shared.step.Goals as goal

pub invariant_of-self-2 : goal.invariant_of-self-2
invariant_of-self-2 g c =
    let entry : Entry = record { seat = c.seat.inside.number; event = c.args.event; reply = c.in_ok-told.reply } in
    let before = c.self.inside in (
      Replays-push (with_functions g.T.AppTable.rows g.T.Functions.Functions.table) g.S.Session.opening (record { world = before.machine; entries = before.entries.items }) (record { world = c.apply_copied.new.machine; entries = c.push_reserved.new.self.items }) entry
          c.self.invariant.0 c.in_ok-told.ensures.row (search rules),
      search rules,
      AreSeated-push g.S.Ledger.parts before.entries.items c.push_reserved.new.self.items entry c.self.invariant.2 c.seat.invariant.2 (search rules),
    )

pub returns-clause-row : goal.returns-clause-row
returns-clause-row g c = search rules

pub returns-clause-logged : goal.returns-clause-logged
returns-clause-logged g c = search rules

pub returns-clause-kept : goal.returns-clause-kept
returns-clause-kept g c = search rules

pub returns-clause-replays : goal.returns-clause-replays
returns-clause-replays g c =
    let entry : Entry = record { seat = c.seat.inside.number; event = c.args.event; reply = c.in_ok-told.reply } in
    let before = c.self.inside in
    Replays-push (with_functions g.T.AppTable.rows g.T.Functions.Functions.table) g.S.Session.opening (record { world = before.machine; entries = before.entries.items }) (record { world = c.apply_copied.new.machine; entries = c.push_reserved.new.self.items }) entry
    c.self.invariant.0 c.in_ok-told.ensures.row (search rules)
