use Rattle.std.proofs.Common.{◌∙◌, ap}
use Rattle.dp_vars.specs.Stores.{slot}
use Rattle.dp_vars.specs.steps.Tables.{names_of}
use Rattle.dp_vars.proofs.VariablesLemmas.{lookup-by_bytes}
use Rattle.dp_vars.proofs.binding_table.BindingTable.slot.Goals as goal

pub returns-in-Some : goal.returns-in-Some
returns-in-Some c =
    c.in-Some.ensures.value
    ∙ lookup-by_bytes (λ name. name.items) c.args.name.now c.self.inside.numbers.entries
    ∙ c.self.invariant.slots c.args.name.now
    ∙ ap (λ entries. slot (names_of entries) c.args.name.now) c.self.view_is

pub returns-in-None : goal.returns-in-None
returns-in-None c =
    c.in-None.ensures.value
    ∙ lookup-by_bytes (λ name. name.items) c.args.name.now c.self.inside.numbers.entries
    ∙ c.self.invariant.slots c.args.name.now
    ∙ ap (λ entries. slot (names_of entries) c.args.name.now) c.self.view_is
