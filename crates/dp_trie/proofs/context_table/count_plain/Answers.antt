use Rattle.std.proofs.Common.{refl, subst}
use Rattle.std.proofs.lemmas.Option.{slice_get_read}
use Rattle.dp_trie.specs.steps.Ranked.{IsPattern}
use Rattle.dp_trie.proofs.BuildLemmas.{patterns-after}
use Rattle.dp_trie.proofs.context_table.count_plain.Goals as goal

pub returns-then-not-is_plain-clause-pattern : goal.returns-then-not-is_plain-clause-pattern
returns-then-not-is_plain-clause-pattern c =
    let found = c.in-Some.ensures.lookup.3 in
    let here = slice_get_read c.args.ranked.now _ c.loop-one.count c.in-Some.one.now refl found.0 (found.1 c.in-Some.one.now) in
    patterns-after c.args.ranked.now c.loop-one.count c.in-Some.one.now c.requires here
    (subst IsPattern c.name_of.ensures (c.if-not-is_plain.ensures.pattern refl))
