use Rattle.std.proofs.Common.{◌∙◌, ◌==◌, sym, ap}
use Rattle.dp_pattern.specs.Dashes.{without_dashes}
use Rattle.dp_trie.specs.Names.{rank}
use Rattle.dp_trie.proofs.MatchLemmas.{plain-side, other-side, pattern-taken}
use Rattle.dp_trie.proofs.matching.matches.Goals as goal

pub returns-in-Same : goal.returns-in-Same
returns-in-Same c =
    let digits = without_dashes c.args.digits.now.text.now in
    sym (plain-side digits c.in-Plain.text.now c.args.name.now c.side_of.result c.in-Plain.ensures.value c.side_of.ensures ∙ ap (λ s. rank s == 1) c.in-Same.is)

pub returns-in_default : goal.returns-in_default
returns-in_default c =
    let digits = without_dashes c.args.digits.now.text.now in
    sym (plain-side digits c.in-Plain.text.now c.args.name.now c.side_of.result c.in-Plain.ensures.value c.side_of.ensures ∙ other-side c.side_of.result c.in_default.not-Same)

pub returns-then-takes_all : goal.returns-then-takes_all
returns-then-takes_all c =
    let digits = without_dashes c.args.digits.now.text.now in
    c.allows.ensures.value
    ∙ sym (pattern-taken digits c.in-Pattern.classes.now c.in-Pattern.tail c.args.name.now c.in-Pattern.ensures.value (sym c.takes_all.ensures ∙ c.if-takes_all.true))
