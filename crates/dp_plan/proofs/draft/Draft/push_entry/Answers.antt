use Rattle.std.proofs.Common.{List, ap, ◌<◌, length, arith}
use Rattle.dp_plan.specs.Contexts.{PlanContext, with_entry}
use Rattle.dp_plan.specs.steps.Draft.{Drafted}
use Rattle.dp_conf.proofs.ChangesLemmas.{changed_at-set}
use Rattle.dp_plan.proofs.draft.Draft.push_entry.Goals as goal

pub returns-clause-pushed : goal.returns-clause-pushed
returns-clause-pushed c =
    let draft = c.self.inside in
    let with_contexts : List PlanContext → Drafted = λ contexts. record { globals = draft.globals.items; names = draft.names.keys; contexts = contexts; numbers = draft.numbers.items; lines = draft.lines.items; taken = draft.taken; labels = draft.labels.keys; remarks = draft.remarks.items } in
    let within : c.args.place < length c.self.inside.contexts.items = omega (arith, c.requires, c.self.invariant, ap (λ (d : Drafted). length d.names) c.self.view_is) in
    rw (← c.self.view_is) (ap with_contexts (changed_at-set (with_entry c.args.entry) c.args.place c.self.inside.contexts.items c.index_mut-context.result.now c.push.new.self within c.index_mut-context.ensures.value c.in_ok-push.ensures))
