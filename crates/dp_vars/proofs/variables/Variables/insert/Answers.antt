-- Writing at an existing key, or inserting a new one, adds to the map of the entries' bytes.
use Rattle.std.proofs.Common.{◌∙◌, IsSome, ap, refl, subst}
use Rattle.std.specs.FinMap.{insert, from_entries}
use Rattle.dp_vars.specs.Variables.{by_bytes}
use Rattle.dp_vars.proofs.VariablesLemmas.{from_entries-with, lookup-inserted, lookup-written}
use Rattle.dp_vars.proofs.variables.Variables.insert.Goals as goal

pub returns-in-Some-clause-ok : goal.returns-in-Some-clause-ok
returns-in-Some-clause-ok c =
    let there = subst IsSome c.in-Some.ensures.value refl in
    let entries = c.self.inside.held.entries in
    ap (λ es. from_entries (by_bytes (λ name. name.items) es)) (c.get_mut.follows.holds c.in_ok-value.value).0
    ∙ from_entries-with (λ name. name.items) entries _ c.args.name.now c.in_ok-value.value
    (λ q. lookup-written (λ name. name.items) q c.args.name.now entries c.in_ok-value.value there)
    ∙ ap (λ m. insert m c.args.name.now c.in_ok-value.value) c.self.view_is
    ∙ ap (insert c.args.self.now c.args.name.now) c.in_ok-value.ensures

pub returns-clause-ok : goal.returns-clause-ok
returns-clause-ok c =
    ap (λ es. from_entries (by_bytes (λ name. name.items) es)) c.in_ok-insert.ensures.entries
    ∙ from_entries-with (λ name. name.items) _ _ c.in_ok-key.key.items c.in_ok-value.value
    (λ q. lookup-inserted (λ name. name.items) q _ c.in_ok-key.key c.in_ok-value.value)
    ∙ ap (λ m. insert (from_entries (by_bytes (λ name. name.items) m.entries)) c.in_ok-key.key.items c.in_ok-value.value)
    c.get_mut.follows.holds-at-none
    ∙ ap (λ m. insert m c.in_ok-key.key.items c.in_ok-value.value) c.self.view_is
    ∙ (λ i. insert c.args.self.now (c.in_ok-key.ensures.items i) (c.in_ok-value.ensures i))
