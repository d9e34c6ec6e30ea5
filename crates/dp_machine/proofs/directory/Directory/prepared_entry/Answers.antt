use Rattle.std.proofs.Common.{◌∙◌, IsSome, IfSome, ap, sym, subst}
use Rattle.std.specs.Option.{option_copied}
use Rattle.dp_plan.specs.Lookup.{entry_at}
use Rattle.dp_machine.specs.steps.Templates.{IsOf}
use Rattle.dp_machine.proofs.TemplatesLemmas.{fits_there, lacks_none}
use Rattle.dp_machine.proofs.directory.Directory.prepared_entry.Goals as goal

pub unreachable-requires-in_default-of_entry : goal.unreachable-requires-in_default-of_entry
unreachable-requires-in_default-of_entry c =
    lacks_none c.self.inside.plan c.self.inside.tables.templates c.args.id c.self.invariant.templates
    (subst (λ plan. IsSome (entry_at plan c.args.id)) (sym c.self.view_is) c.requires) (sym c.of_entry.ensures ∙ ap option_copied c.in_default-of_entry.is)

pub returns-clause-template : goal.returns-clause-template
returns-clause-template c =
    subst (λ o. IfSome o (λ entry. IsOf entry c.in-Some-of_entry.template.now)) (sym c.entry.ensures ∙ ap option_copied c.in-Some.is)
    (fits_there c.self.inside.plan c.self.inside.tables.templates c.args.id c.in-Some-of_entry.template.now c.self.invariant.templates
    (sym c.of_entry.ensures ∙ ap option_copied c.in-Some-of_entry.is))
