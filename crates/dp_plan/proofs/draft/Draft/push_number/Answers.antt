use Rattle.std.proofs.Common.{ℕ, List, ap, ◌<◌, length, arith}
use Rattle.dp_plan.specs.steps.Draft.{Drafted}
use Rattle.dp_plan.specs.steps.Numbers.{with_number}
use Rattle.dp_conf.proofs.ChangesLemmas.{changed_at-set}
use Rattle.dp_plan.proofs.draft.Draft.push_number.Goals as goal

pub returns-clause-pushed : goal.returns-clause-pushed
returns-clause-pushed c =
    let draft = c.self.inside in
    let with_numbers : List (List ℕ) → Drafted = λ numbers. record { globals = draft.globals.items; names = draft.names.keys; contexts = draft.contexts.items; numbers = numbers; lines = draft.lines.items; taken = draft.taken; labels = draft.labels.keys; remarks = draft.remarks.items } in
    let within : c.args.place < length c.self.inside.numbers.items = omega (arith, c.requires, c.self.invariant, ap (λ (d : Drafted). length d.names) c.self.view_is) in
    rw (← c.self.view_is) (ap with_numbers (changed_at-set (with_number c.args.number) c.args.place c.self.inside.numbers.items c.index_mut-numbers.result.now c.push.new.self within c.index_mut-numbers.ensures.value c.in_ok-push.ensures))
