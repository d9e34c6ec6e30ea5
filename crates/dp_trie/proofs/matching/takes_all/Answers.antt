use Rattle.std.proofs.Common.{◌∙◌, ◌+◌, sym, refl, arith}
use Rattle.std.proofs.lemmas.Option.{slice_get_read}
use Rattle.dp_pattern.specs.Dashes.{without_dashes}
use Rattle.dp_trie.proofs.MatchLemmas.{one-more, dead-whole}
use Rattle.dp_trie.proofs.matching.takes_all.Goals as goal

pub returns-then-not-takes : goal.returns-then-not-takes
returns-then-not-takes c =
    let digits = without_dashes c.args.digits.now.text.now in
    let here = slice_get_read c.args.classes.now _ c.loop-number.number c.index-classes-number.result refl (omega arith) c.index-classes-number.is in
    sym (dead-whole c.args.classes.now digits (c.loop-number.number + 1)
    (one-more c.args.classes.now digits c.loop-number.number c.index-classes-number.result here c.loop-number.invariant.taken ∙ (sym c.takes.ensures.value ∙ c.if-not-takes.true)))

pub loop-number-preserved : goal.loop-number-preserved
loop-number-preserved c =
    let digits = without_dashes c.args.digits.now.text.now in
    let here = slice_get_read c.args.classes.now _ c.loop-number.number c.index-classes-number.result refl (omega arith) c.index-classes-number.is in
    record {
      stands = c.takes.ensures.stands;
      taken = one-more c.args.classes.now digits c.loop-number.number c.index-classes-number.result here c.loop-number.invariant.taken ∙ (sym c.takes.ensures.value ∙ c.if-not-takes.false);
    }
