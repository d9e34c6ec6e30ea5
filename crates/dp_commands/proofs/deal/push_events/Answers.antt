use Rattle.std.proofs.Common.{◌≡◌, ◌++◌, [], List, ap, subst, sym, ◌∙◌}
use Rattle.std.proofs.lemmas.List.{append-nil}
use Rattle.dp_machine.specs.declared.event.Event.{Event}
use Rattle.dp_commands.specs.Script.{line_turns}
use Rattle.dp_commands.specs.Threads.{events_in}
use Rattle.dp_commands.proofs.ThreadsLemmas.{events_in-shows}
use Rattle.dp_commands.proofs.deal.push_events.Goals as goal

pub returns-in-Show : goal.returns-in-Show
returns-in-Show c =
    let line = c.args.line.now in
    let none : events_in (line_turns line) ≡ [] = subst (λ turn. events_in (line_turns (record line { turn = turn })) ≡ []) (sym c.in-Show.is) (events_in-shows line.count c.in-Show.channel c.in-Show.name) in
    sym (ap (λ (es : List Event). c.args.events.now.items ++ es) none ∙ append-nil c.args.events.now.items)
