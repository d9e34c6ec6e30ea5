use Rattle.std.proofs.Common.{◌∙◌, sym, ap, Greater}
use Rattle.std.specs.Prelude.{nat_eq}
use Rattle.std.specs.List.{starts_with}
use Rattle.dp_trie.proofs.PlainLemmas.{side_by, side-compared}
use Rattle.dp_trie.proofs.plain.side_of_text.Goals as goal

pub returns-in-Less : goal.returns-in-Less
returns-in-Less c =
    let begins = starts_with nat_eq c.args.name.now c.args.text.now in
    ap (λ o. side_by o begins) c.in-Less.ensures ∙ sym (side-compared c.args.name.now c.args.text.now)

pub returns-in-Equal : goal.returns-in-Equal
returns-in-Equal c =
    let begins = starts_with nat_eq c.args.name.now c.args.text.now in
    ap (λ o. side_by o begins) c.in-Equal.ensures ∙ sym (side-compared c.args.name.now c.args.text.now)

pub returns-then-starts_with : goal.returns-then-starts_with
returns-then-starts_with c =
    let begins = sym c.if-starts_with.true ∙ c.starts_with.ensures.value in
    ap (side_by Greater) begins
    ∙ (ap (λ o. side_by o (starts_with nat_eq c.args.name.now c.args.text.now)) c.in-Greater.ensures
    ∙ sym (side-compared c.args.name.now c.args.text.now))

pub returns-else-starts_with : goal.returns-else-starts_with
returns-else-starts_with c =
    let begins = sym c.if-starts_with.false ∙ c.starts_with.ensures.value in
    ap (side_by Greater) begins
    ∙ (ap (λ o. side_by o (starts_with nat_eq c.args.name.now c.args.text.now)) c.in-Greater.ensures
    ∙ sym (side-compared c.args.name.now c.args.text.now))
