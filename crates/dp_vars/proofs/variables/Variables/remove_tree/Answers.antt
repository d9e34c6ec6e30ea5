-- Those entries stay whose names are not in the tree.
use Rattle.std.proofs.Common.{◌∙◌, ℕ, Bool, List, ap, not, rules}
use Rattle.std.proofs.lemmas.Map.Made.{filter_same_pairs}
use Rattle.std.specs.FinMap.{from_entries}
use Rattle.dp_vars.specs.Variables.{by_bytes, is_in_tree, without_tree}
use Rattle.dp_vars.proofs.VariablesLemmas.{from_entries-kept}
use Rattle.dp_vars.proofs.variables.Variables.remove_tree.Goals as goal

pub returns : goal.returns
returns c =
    let keep : List ℕ → Bool = λ name. not (is_in_tree c.args.root.now c.args.front.now name) in
    ap (λ es. from_entries (by_bytes (λ name. name.items) es))
    (filter_same_pairs _ (λ e. keep e.0.items) _ (λ k v b w f' t. search rules) _ _ c.retain.ensures.filtered)
    ∙ from_entries-kept (λ name. name.items) keep c.self.inside.held.entries
    ∙ ap (without_tree c.args.root.now c.args.front.now) c.self.view_is
