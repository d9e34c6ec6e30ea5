use Rattle.std.proofs.Common.{◌≡◌, ◌+◌, reverse, ap, ◌∙◌, arith}
use Rattle.std.proofs.lemmas.List.{reverse-reverse}
use Rattle.dp_app.specs.Rows.{with_functions}
use Rattle.dp_board.specs.Settled.{calls_of}
use Rattle.dp_board.proofs.SettledLemmas.{IsWhole-of, calls-reverse}
use Rattle.dp_board.proofs.settle.history_of.Goals as goal

pub split_parts-requires-clause-amount : goal.split_parts-requires-clause-amount
split_parts-requires-clause-amount g c =
    omega (arith, ap calls_of c.join_parts.ensures.sheets, calls-reverse c.args.seats.now.items, c.join_parts.ensures.amount, c.into_history-history.ensures.same.1)

pub returns-clause-whole : goal.returns-clause-whole
returns-clause-whole g c =
    let seats = c.args.seats.now.items in
    let shared = c.into_inner-shared.result in
    let closed = c.into_history-history.ensures in
    let counted : c.join_parts.new.all.amount ≡ calls_of seats = omega (arith, c.join_parts.ensures.amount, c.into_inner.result.no_call) in
    IsWhole-of (with_functions g.T.AppTable.rows g.T.Functions.Functions.table) g.S.Session.opening g.S.Ledger.parts c.args.board c.join_parts.new.all.amount seats c.into_history-history.result shared closed.history closed.replays c.requires.present.0 closed.calls counted closed.seated
    (c.board.invariant ∙ ap (λ n. n + 1) c.board.view_is)

pub returns-clause-same : goal.returns-clause-same
returns-clause-same g c = c.split_parts.ensures ∙ (ap reverse c.join_parts.ensures.sheets ∙ reverse-reverse c.args.seats.now.items)
