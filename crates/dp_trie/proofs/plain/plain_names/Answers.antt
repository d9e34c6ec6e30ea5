use Rattle.std.proofs.Common.{sym, subst, ap, ◌∙◌, map}
use Rattle.dp_pattern.specs.Name.{Meaning, Plain}
use Rattle.dp_trie.specs.steps.Ranked.{known_now, IsGroup}
use Rattle.dp_trie.proofs.BuildLemmas.{names-push}
use Rattle.dp_trie.proofs.plain.plain_names.Goals as goal

pub loop-first-preserved : goal.loop-first-preserved
loop-first-preserved c =
    let pushed = (c.in_ok-push.ensures {u = tt}).items in
    let same = c.new-name.ensures ∙ (c.in_ok-from_slice.ensures {u = tt}).items in
    rw pushed
    (names-push c.args.ranked.now c.loop-first.names.items c.new-name.result c.loop-first.from c.group_end-until.result c.loop-first.invariant
    (subst (λ (m : Meaning). IsGroup (map known_now c.args.ranked.now) c.loop-first.from c.group_end-until.result m) (sym (ap Plain same ∙ (c.plain_of.ensures ∙ c.name_of-name.ensures))) c.group_end-until.ensures.group))
