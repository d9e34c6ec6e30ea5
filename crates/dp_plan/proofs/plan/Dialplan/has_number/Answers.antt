use Rattle.std.proofs.Common.{rules, ◌≡◌, ◌<◌, Some, length, map, slice_get, get_or, refl, ap, sym, ◌∙◌}
use Rattle.std.specs.List.{position}
use Rattle.std.proofs.lemmas.Option.{slice_get_read}
use Rattle.dp_conf.specs.Words.{same_text}
use Rattle.dp_plan.specs.Lookup.{number_of}
use Rattle.dp_plan.proofs.PositionLemmas.{found_at, same_at}
use Rattle.dp_plan.proofs.plan.Dialplan.has_number.Goals as goal

-- the names are in the order of the contexts, and are distinct
pub returns-in-Some : goal.returns-in-Some
returns-in-Some c =
    let within : c.args.number < length c.self.inside.names.keys = search rules in
    let read : c.in-Some.held.now ≡ get_or c.self.inside.names.keys c.args.number c.in-Some.held.now = search rules in
    let here : slice_get c.self.inside.names.keys c.args.number ≡ Some c.in-Some.held.now = slice_get_read c.self.inside.names.keys (length c.self.inside.names.keys) c.args.number c.in-Some.held.now refl within read in
    let names : map (λ context. context.name) c.args.self.now.contexts ≡ c.self.inside.names.keys = search rules in
    let number : number_of c.args.self.now c.args.name.now ≡ position (same_text c.args.name.now) c.self.inside.names.keys = ap (position (same_text c.args.name.now)) names in
    let compared : c.eq.result ≡ same_text c.args.name.now c.in-Some.held.now = c.eq.ensures ∙ ap (same_text c.args.name.now) c.text.ensures in (
      (λ is. number ∙ found_at c.self.inside.names.keys c.args.number c.in-Some.held.now c.args.name.now c.as_slice.ensures.unique here (sym compared ∙ is)),
      (λ found. compared ∙ same_at c.self.inside.names.keys c.args.number c.in-Some.held.now c.args.name.now here (sym number ∙ found)),
    )
