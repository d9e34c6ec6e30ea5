use Rattle.std.proofs.Common.{IsSome, ap, subst, sym, ◌∙◌}
use Rattle.std.specs.Option.{option_and_then}
use Rattle.dp_plan.specs.Lookup.{entry_at}
use Rattle.dp_app.specs.Rows.{with_functions}
use Rattle.dp_machine.specs.Found.{Located}
use Rattle.dp_machine.specs.Unknown.{unknown_of_entry}
use Rattle.dp_machine.proofs.LookupLemmas.{ahead_located, ahead_stands}
use Rattle.dp_machine.proofs.unknown.unknown_ahead_of.Goals as goal

pub prepared_entry-prepared-requires : goal.prepared_entry-prepared-requires
prepared_entry-prepared-requires g c =
    subst (λ plan. IsSome (entry_at plan c.in-Some.id)) (sym c.in-Some.ensures.same)
    (ahead_stands c.args.channel.now.phase c.args.exchange.now.plan c.args.channel.now c.in-Some.id c.in-Some.ensures.entry)

-- the entry is the one that is found there
pub returns-clause-unknown : goal.returns-clause-unknown
returns-clause-unknown g c channels =
    c.in_ok-unknown.ensures
    ∙ sym (ap (option_and_then (λ (found : Located).
    unknown_of_entry (with_functions g.T.AppTable.rows g.T.Functions.Functions.table) g.T.KnownTable.knowledge c.args.exchange.now.shared c.args.number c.args.channel.now found.entry))
    (ahead_located c.args.channel.now.phase c.args.exchange.now.plan c.args.channel.now c.in-Some.id c.prepared_entry-prepared.result.entry.now c.in-Some.ensures.entry
    (c.prepared_entry-prepared.ensures.entry ∙ ap (λ plan. entry_at plan c.in-Some.id) c.in-Some.ensures.same)))
