use Rattle.std.proofs.Common.{[], ◌∷◌, is_some, sym, ap, subst, ◌∙◌}
use Rattle.dp_debug.specs.Cut.{IsRun}
use Rattle.dp_machine.specs.Events.{event_row}
use Rattle.dp_table.specs.Standard.{standard_meanings}
use Rattle.dp_commands.proofs.DebugLemmas.{end_none, halt_world, halt_replies, halt_some}
use Rattle.dp_commands.proofs.debug.step.Goals as goal

pub go_on-requires : goal.go_on-requires
go_on-requires c =
    let held = c.args.held.now in
    let event = c.args.event.now in
    let halt = c.run-halt.result in
    let run : IsRun standard_meanings c.args.machine.now (event ∷ []) (held ∷ []) 0 0 [] halt c.run-halt.new.self c.run-halt.new.machine =
    subst (λ events. IsRun standard_meanings c.args.machine.now events (held ∷ []) 0 0 [] halt c.run-halt.new.self c.run-halt.new.machine) c.from_ref.ensures.value
    (subst (λ breaks. IsRun standard_meanings c.args.machine.now c.from_ref.result.now breaks 0 0 [] halt c.run-halt.new.self c.run-halt.new.machine) c.from_ref-2.ensures.value c.run-halt.ensures) in
    halt_replies standard_meanings c.args.machine.now event (held ∷ []) halt c.run-halt.new.self c.run-halt.new.machine run c.in-Break.field-0 c.in-Break.is

pub returns-in-End-clause-halted : goal.returns-in-End-clause-halted
returns-in-End-clause-halted c =
    let held = c.args.held.now in
    let event = c.args.event.now in
    let halt = c.run-halt.result in
    let run : IsRun standard_meanings c.args.machine.now (event ∷ []) (held ∷ []) 0 0 [] halt c.run-halt.new.self c.run-halt.new.machine =
    subst (λ events. IsRun standard_meanings c.args.machine.now events (held ∷ []) 0 0 [] halt c.run-halt.new.self c.run-halt.new.machine) c.from_ref.ensures.value
    (subst (λ breaks. IsRun standard_meanings c.args.machine.now c.from_ref.result.now breaks 0 0 [] halt c.run-halt.new.self c.run-halt.new.machine) c.from_ref-2.ensures.value c.run-halt.ensures) in
    sym (ap is_some (end_none standard_meanings c.args.machine.now event (held ∷ []) halt c.run-halt.new.self c.run-halt.new.machine run c.in-End.is))

pub returns-in_ok-go_on-in-Break-clause-halted : goal.returns-in_ok-go_on-in-Break-clause-halted
returns-in_ok-go_on-in-Break-clause-halted c =
    let held = c.args.held.now in
    let event = c.args.event.now in
    let halt = c.run-halt.result in
    let run : IsRun standard_meanings c.args.machine.now (event ∷ []) (held ∷ []) 0 0 [] halt c.run-halt.new.self c.run-halt.new.machine =
    subst (λ events. IsRun standard_meanings c.args.machine.now events (held ∷ []) 0 0 [] halt c.run-halt.new.self c.run-halt.new.machine) c.from_ref.ensures.value
    (subst (λ breaks. IsRun standard_meanings c.args.machine.now c.from_ref.result.now breaks 0 0 [] halt c.run-halt.new.self c.run-halt.new.machine) c.from_ref-2.ensures.value c.run-halt.ensures) in
    sym (ap is_some (halt_some standard_meanings c.args.machine.now event (held ∷ []) halt c.run-halt.new.self c.run-halt.new.machine run c.in-Break.field-0 c.in-Break.is))

pub returns-in_ok-go_on-in-Break-clause-reply : goal.returns-in_ok-go_on-in-Break-clause-reply
returns-in_ok-go_on-in-Break-clause-reply c =
    let held = c.args.held.now in
    let event = c.args.event.now in
    let halt = c.run-halt.result in
    let run : IsRun standard_meanings c.args.machine.now (event ∷ []) (held ∷ []) 0 0 [] halt c.run-halt.new.self c.run-halt.new.machine =
    subst (λ events. IsRun standard_meanings c.args.machine.now events (held ∷ []) 0 0 [] halt c.run-halt.new.self c.run-halt.new.machine) c.from_ref.ensures.value
    (subst (λ breaks. IsRun standard_meanings c.args.machine.now c.from_ref.result.now breaks 0 0 [] halt c.run-halt.new.self c.run-halt.new.machine) c.from_ref-2.ensures.value c.run-halt.ensures) in
    c.in_ok-go_on-in-Break.ensures.reply ∙ ap (λ w. (event_row standard_meanings w event).1) (halt_world standard_meanings c.args.machine.now event (held ∷ []) halt c.run-halt.new.self c.run-halt.new.machine run c.in-Break.field-0 c.in-Break.is)

pub returns-in_ok-go_on-in-Break-clause-world : goal.returns-in_ok-go_on-in-Break-clause-world
returns-in_ok-go_on-in-Break-clause-world c =
    let held = c.args.held.now in
    let event = c.args.event.now in
    let halt = c.run-halt.result in
    let run : IsRun standard_meanings c.args.machine.now (event ∷ []) (held ∷ []) 0 0 [] halt c.run-halt.new.self c.run-halt.new.machine =
    subst (λ events. IsRun standard_meanings c.args.machine.now events (held ∷ []) 0 0 [] halt c.run-halt.new.self c.run-halt.new.machine) c.from_ref.ensures.value
    (subst (λ breaks. IsRun standard_meanings c.args.machine.now c.from_ref.result.now breaks 0 0 [] halt c.run-halt.new.self c.run-halt.new.machine) c.from_ref-2.ensures.value c.run-halt.ensures) in
    c.in_ok-go_on-in-Break.ensures.world ∙ ap (λ w. (event_row standard_meanings w event).0) (halt_world standard_meanings c.args.machine.now event (held ∷ []) halt c.run-halt.new.self c.run-halt.new.machine run c.in-Break.field-0 c.in-Break.is)
