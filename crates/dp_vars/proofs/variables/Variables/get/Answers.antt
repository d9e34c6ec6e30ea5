-- The look-up finds the entry that the map of the entries' bytes contains.
use Rattle.std.proofs.Common.{◌∙◌, ap, sym, Some}
use Rattle.std.specs.FinMap.{get}
use Rattle.dp_vars.specs.Variables.{by_bytes}
use Rattle.dp_vars.proofs.VariablesLemmas.{get-texts, lookup-by_bytes}
use Rattle.dp_vars.proofs.variables.Variables.get.Goals as goal

pub returns-in-Some : goal.returns-in-Some
returns-in-Some c =
    ap Some c.bytes.ensures ∙ c.in-Some.ensures.value
    ∙ lookup-by_bytes (λ name. name.items) c.args.name.now c.self.inside.held.entries
    ∙ sym (get-texts c.args.name.now (by_bytes (λ name. name.items) c.self.inside.held.entries))
    ∙ ap (λ m. get m c.args.name.now) c.self.view_is

pub returns-in-None : goal.returns-in-None
returns-in-None c =
    c.in-None.ensures.value
    ∙ lookup-by_bytes (λ name. name.items) c.args.name.now c.self.inside.held.entries
    ∙ sym (get-texts c.args.name.now (by_bytes (λ name. name.items) c.self.inside.held.entries))
    ∙ ap (λ m. get m c.args.name.now) c.self.view_is
