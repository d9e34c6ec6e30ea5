use Rattle.std.proofs.Common.{refl}
use Rattle.std.proofs.lemmas.Option.{slice_get_read}
use Rattle.dp_trie.proofs.BuildLemmas.{group-start_at, group-more}
use Rattle.dp_trie.proofs.ranked.group_end.Goals as goal

pub loop-next-init : goal.loop-next-init
loop-next-init c = group-start_at c.args.ranked.now c.args.from c.args.name.now c.requires.within c.requires.first

pub loop-next-preserved : goal.loop-next-preserved
loop-next-preserved c =
    let found = c.in-Some.ensures.lookup.3 in
    let here = slice_get_read c.args.ranked.now _ c.loop-next.until c.in-Some.next.now refl found.0 (found.1 c.in-Some.next.now) in
    group-more c.args.ranked.now c.args.from c.loop-next.until c.args.name.now c.in-Some.next.now c.loop-next.invariant here (c.if-not-are_one.ensures.0 refl)
