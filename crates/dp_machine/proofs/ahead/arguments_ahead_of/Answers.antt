use Rattle.std.proofs.Common.{IsSome, Some, ap, subst, sym, ◌∙◌}
use Rattle.std.specs.Option.{option_map}
use Rattle.dp_plan.specs.Lookup.{entry_at}
use Rattle.dp_machine.specs.Found.{Located}
use Rattle.dp_machine.specs.Seen.{arguments_seen}
use Rattle.dp_machine.proofs.LookupLemmas.{ahead_located, ahead_stands}
use Rattle.dp_machine.proofs.ahead.arguments_ahead_of.Goals as goal

pub prepared_entry-prepared-requires : goal.prepared_entry-prepared-requires
prepared_entry-prepared-requires g c =
    subst (λ plan. IsSome (entry_at plan c.in-Some.id)) (sym c.in-Some.ensures.same)
    (ahead_stands c.args.channel.now.phase c.args.exchange.now.plan c.args.channel.now c.in-Some.id c.in-Some.ensures.entry)

-- the entry is the one that is found there
pub returns-clause-arguments : goal.returns-clause-arguments
returns-clause-arguments g c channels =
    ap Some c.in_ok-text.ensures
    ∙ sym (ap (option_map (λ (found : Located). arguments_seen g.F.Functions.table c.args.exchange.now.shared c.args.number c.args.channel.now found.entry.arguments))
    (ahead_located c.args.channel.now.phase c.args.exchange.now.plan c.args.channel.now c.in-Some.id c.prepared_entry-prepared.result.entry.now c.in-Some.ensures.entry
    (c.prepared_entry-prepared.ensures.entry ∙ ap (λ plan. entry_at plan c.in-Some.id) c.in-Some.ensures.same)))
