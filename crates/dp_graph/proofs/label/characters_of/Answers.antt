use Rattle.std.proofs.Common.{◌≡◌, ℕ, List, IfOk, ap, subst, sym, ◌∙◌}
use Rattle.std.specs.Str.{chars}
use Rattle.dp_graph.proofs.LabelLemmas.{characters-latin, characters-utf8}
use Rattle.dp_graph.proofs.label.characters_of.Goals as goal

pub returns-in-Ok : goal.returns-in-Ok
returns-in-Ok c =
    subst (λ (cs : List ℕ). IfOk c.chars_of.result (λ list. list.items ≡ cs))
    (ap chars c.in-Ok.ensures.cases.0 ∙ sym (characters-utf8 c.args.text.now c.in-Ok.ensures.cases.1)) c.chars_of.ensures

pub returns-in-Err : goal.returns-in-Err
returns-in-Err c =
    subst (λ (cs : List ℕ). IfOk c.latin_of.result (λ list. list.items ≡ cs))
    (sym (characters-latin c.args.text.now c.in-Err.ensures.cases.0)) c.latin_of.ensures
