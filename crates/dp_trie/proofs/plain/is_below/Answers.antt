use Rattle.std.proofs.Common.{◌∙◌, sym, ap, refl, nat_cmp}
use Rattle.std.specs.Prelude.{nat_lt}
use Rattle.std.specs.Cmp.Lexicographic.{slice_cmp}
use Rattle.std.specs.Ordering.{is_lt}
use Rattle.dp_pattern.specs.Dashes.{without_dashes}
use Rattle.dp_trie.specs.Names.{side_of, rank}
use Rattle.dp_trie.proofs.PlainLemmas.{before-compared}
use Rattle.dp_trie.proofs.plain.is_below.Goals as goal

pub returns-in-Some : goal.returns-in-Some
returns-in-Some c =
    let digits = without_dashes c.args.digits.now.text.now in
    c.is_lt.ensures
    ∙ (ap is_lt (c.cmp.ensures ∙ ap (slice_cmp nat_cmp c.args.name.now) (c.in-Some.ensures c.in-Some.text refl))
    ∙ (before-compared c.args.name.now digits
    ∙ ap (nat_lt (rank (side_of c.args.name.now digits))) (sym c.if-limit-eq-SAME.true)))
