use Rattle.std.proofs.Common.{[], ◌++◌, ap, ◌∙◌}
use Rattle.std.proofs.lemmas.List.{append-nil}
use Rattle.dp_machine.specs.World.{opening_with}
use Rattle.dp_commands.specs.Script.{turns_of}
use Rattle.dp_commands.specs.Turns.{lines_of}
use Rattle.dp_unmodelled.specs.Meeting.{meeting_turn}
use Rattle.dp_unmodelled.specs.Modelled.{modelled_functions}
use Rattle.dp_unmodelled.proofs.report.met_lines.Goals as goal

pub returns-in-Ok : goal.returns-in-Ok
returns-in-Ok c =
    let text = lines_of meeting_turn ([], opening_with modelled_functions c.args.contents.files.plan c.args.contents.files.queues) (turns_of c.args.contents.lines.items) in
    ap (λ bytes. bytes.items) c.into_bytes.ensures
    ∙ (c.in-Ok.ensures.writes.0
    ∙ ((λ i. c.none-written.ensures.bytes i ++ (lines_of meeting_turn (c.none.ensures i, c.in_ok-machine.ensures i) (turns_of (c.deref.ensures.value i)) ++ []))
    ∙ append-nil text))
