use Rattle.std.proofs.Common.{◌∙◌, ◌==◌, sym, ap, refl}
use Rattle.std.specs.Prelude.{nat_eq}
use Rattle.std.specs.Cmp.Lexicographic.{pointwise}
use Rattle.dp_pattern.specs.Dashes.{without_dashes}
use Rattle.dp_trie.specs.Names.{side_of, rank, fitting}
use Rattle.dp_trie.proofs.PlainLemmas.{same-compared}
use Rattle.dp_trie.proofs.plain.fits.Goals as goal

pub returns-in-Some : goal.returns-in-Some
returns-in-Some c =
    let digits = without_dashes c.args.digits.now.text.now in
    c.eq.ensures
    ∙ (ap (λ name. pointwise nat_eq name c.in-Some.text.now) c.bytes.ensures
    ∙ (ap (pointwise nat_eq c.args.plain.now.name) (c.in-Some.ensures c.in-Some.text refl)
    ∙ (same-compared c.args.plain.now.name digits
    ∙ ap (λ more. rank (side_of c.args.plain.now.name digits) == rank (fitting more)) (sym (sym c.is_more-more.ensures ∙ c.if-not-more.true)))))
