use Rattle.std.proofs.Common.{ℕ, List, ap, ◌<◌, length, arith}
use Rattle.dp_plan.specs.steps.Draft.{Drafted}
use Rattle.dp_plan.specs.steps.Numbers.{with_number}
use Rattle.dp_conf.proofs.ChangesLemmas.{changed_at-set}
use Rattle.dp_plan.proofs.draft.Draft.push_line.Goals as goal

pub returns-clause-pushed : goal.returns-clause-pushed
returns-clause-pushed c =
    let draft = c.self.inside in
    let with_lines : List (List ℕ) → Drafted = λ lines. record { globals = draft.globals.items; names = draft.names.keys; contexts = draft.contexts.items; numbers = draft.numbers.items; lines = lines; taken = draft.taken; labels = draft.labels.keys; remarks = draft.remarks.items } in
    let within : c.args.place < length c.self.inside.lines.items = omega (arith, c.requires, c.self.invariant, ap (λ (d : Drafted). length d.names) c.self.view_is) in
    rw (← c.self.view_is, ← c.in_ok-line.ensures) (ap with_lines (changed_at-set (with_number c.in_ok-line.line) c.args.place c.self.inside.lines.items c.index_mut-lines.result.now c.push.new.self within c.index_mut-lines.ensures.value c.in_ok-push.ensures))
