use Rattle.std.proofs.Common.{◌∙◌, sym, ap, arith}
use Rattle.std.specs.Prelude.{slice_get}
use Rattle.std.proofs.lemmas.Option.{slice_get-get_or, slice_get_past}
use Rattle.dp_trie.proofs.DigitLemmas.{clear-digit, clear-whole}
use Rattle.dp_trie.proofs.digits.Digits.at.Goals as goal

pub returns-then-number-self-clause-value : goal.returns-then-number-self-clause-value
returns-then-number-self-clause-value c =
    let inside = c.args.self.now.clears.within in
    let few = c.if-number-self.true in
    sym (clear-digit c.args.self.now.text.now c.args.self.now.clear c.args.number c.args.self.now.clears few
    ∙ slice_get-get_or c.args.self.now.text.now c.args.number 0 (omega (arith, few, inside)))

pub returns-then-self-clause-value : goal.returns-then-self-clause-value
returns-then-self-clause-value c =
    let few = c.if-number-self.false in
    let all = c.if-self.true in
    sym (ap (λ text. slice_get text c.args.number) (clear-whole c.args.self.now.text.now c.args.self.now.clear c.args.self.now.clears all)
    ∙ slice_get_past c.args.self.now.text.now c.args.number (omega (arith, few, all)))
