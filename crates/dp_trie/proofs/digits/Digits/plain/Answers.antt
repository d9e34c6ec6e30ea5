use Rattle.std.proofs.Common.{◌∙◌, sym, ap, Bor}
use Rattle.std.proofs.lemmas.Option.{same_Some}
use Rattle.dp_trie.proofs.DigitLemmas.{clear-whole}
use Rattle.dp_trie.proofs.digits.Digits.plain.Goals as goal

pub returns-then-self : goal.returns-then-self
returns-then-self c =
    let text = c.args.self.now.text.now in
    λ x same. ap (λ (b : Bor _). b.now) (sym (same_Some _ x same)) ∙ sym (clear-whole text c.args.self.now.clear c.args.self.now.clears c.if-self.true)
