use Rattle.std.proofs.Common.{◌∙◌, ap, [], ◌++◌}
use Rattle.dp_pattern.specs.Dashes.{without_dashes}
use Rattle.dp_trie.specs.Names.{known_plain}
use Rattle.dp_trie.specs.Tree.{known_from}
use Rattle.dp_trie.proofs.LabelLemmas.{holders_named-rise, found-labelled, first_asked}
use Rattle.dp_trie.proofs.context_table.ContextTable.find_label.Goals as goal

pub find-requires : goal.find-requires
find-requires c =
    let inside = c.self.inside in
    holders_named-rise (known_plain inside.plain.items inside.names.items ++ known_from inside.held.items [] inside.nodes.items) inside.labels c.args.label.now c.self.invariant.4

pub returns : goal.returns
returns c =
    let inside = c.self.inside in
    let digits = without_dashes c.args.digits.now.text.now in
    let entries = known_plain inside.plain.items inside.names.items ++ known_from inside.held.items [] inside.nodes.items in
    c.find.ensures
    ∙ (found-labelled digits c.args.label.now entries inside.labels c.self.invariant.4
    ∙ ap (λ kept. first_asked digits c.args.label.now kept.entries) c.self.view_is)
