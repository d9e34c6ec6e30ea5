use Rattle.std.proofs.Common.{◌+◌, ◌≤◌, length, sym, ap, arith, rules}
use Rattle.std.specs.List.{position}
use Rattle.dp_pattern.specs.Name.{set_size, is_end}
use Rattle.dp_pattern.proofs.PieceLemmas.{pieces_of-after}
use Rattle.dp_pattern.proofs.reading.set_at.Goals as goal

pub returns-in-Some-clause-after : goal.returns-in-Some-clause-after
returns-in-Some-clause-after c =
    let text = c.args.text.now in
    let within : c.in-Some.n + 1 ≤ length text = search rules in
    pieces_of-after (c.in-Some.n + 1) (position is_end text) text (ap (λ place. set_size place text) (sym c.in-Some.ensures)) within

pub returns-in-None-clause-after : goal.returns-in-None-clause-after
returns-in-None-clause-after c =
    let text = c.args.text.now in
    pieces_of-after (length text) (position is_end text) text (ap (λ place. set_size place text) (sym c.in-None.ensures)) (omega arith)
