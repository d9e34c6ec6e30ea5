use Rattle.std.proofs.Common.{◌∙◌, sym, ap, subst, arith, List, ◌++◌, ◌∷◌, [], map, get_or}
use Rattle.std.specs.Prelude.{filter_map}
use Rattle.std.proofs.lemmas.List.{take_all}
use Rattle.std.proofs.lemmas.Option.{slice_get-get_or}
use Rattle.dp_plan.specs.declared.entry.EntryId.{EntryId}
use Rattle.dp_trie.specs.Known.{Known, known_at, KeepsEntries}
use Rattle.dp_trie.specs.steps.Ranked.{known_now}
use Rattle.dp_trie.proofs.BuildLemmas.{filter_map-more}
use Rattle.dp_trie.proofs.KeepLemmas.{keeps-ranked, plain_first, in_order}
use Rattle.dp_trie.proofs.ranked.rank.Goals as goal

pub loop-id-preserved : goal.loop-id-preserved
loop-id-preserved c =
    let id : EntryId = get_or c.ranked_at-ids.result.now c.loop-id.id-index (record { context = 0; entry = 0 }) in
    let here = slice_get-get_or c.ranked_at-ids.result.now c.loop-id.id-index (record { context = 0; entry = 0 }) (omega arith) in
    c.in_ok-push_entry.ensures {u = tt}
    ∙ (ap (λ l. l ++ filter_map (known_at c.args.plan.now) (id ∷ [])) c.loop-id.invariant
    ∙ sym (filter_map-more (known_at c.args.plan.now) c.ranked_at-ids.result.now c.loop-id.id-index id here))

pub returns-clause-keeps : goal.returns-clause-keeps
returns-clause-keeps c =
    let all = take_all c.loop-id.id-index c.ranked_at-ids.result.now (omega arith) in
    let same = c.loop-id.invariant ∙ ap (filter_map (known_at c.args.plan.now)) all in
    subst (λ (known : List Known). KeepsEntries c.args.plan.now c.args.number known) (sym same) (keeps-ranked c.args.plan.now c.args.number c.ranked_at-ids.result.now c.ranked_at-ids.ensures)

pub returns-clause-plain_first : goal.returns-clause-plain_first
returns-clause-plain_first c = plain_first c.args.plan.now c.args.number (map known_now c.loop-id.ranked.items) (returns-clause-keeps c)

pub returns-clause-order : goal.returns-clause-order
returns-clause-order c = in_order c.args.plan.now c.args.number (map known_now c.loop-id.ranked.items) (returns-clause-keeps c)
