use Rattle.std.proofs.Common.{◌≡◌, ◌<◌, ◌≤◌, ℕ, List, [], ◌∷◌, false, true, length, refl, ap, sym, ⊎_elim, arith}
use Rattle.std.proofs.lemmas.Bool.{cases_lt}
use Rattle.dp_conf.proofs.ChangesLemmas.{changed_at-set, changed_at-past}
use Rattle.dp_files.specs.Sections.{with_lines}
use Rattle.dp_files.specs.declared.sections.SourceSection.{SourceSection}
use Rattle.dp_files.proofs.sections.add_line.Goals as goal

pub returns-in_ok-push : goal.returns-in_ok-push
returns-in_ok-push c =
    let within : c.args.place < length c.args.sections.now.items = omega (arith, c.in-Some.ensures.variant.0 refl, c.args.sections.now.ok) in
    let section = c.in-Some.section.now in
    changed_at-set (with_lines (c.args.line ∷ [])) c.args.place c.args.sections.now.items section _ within c.in-Some.ensures.value
    (ap (λ (lines : List ℕ). let t : SourceSection = record { header = section.header; name = section.name; is_template = section.is_template; lines = lines } in t) c.in_ok-push.ensures.ok)

pub returns-in_default : goal.returns-in_default
returns-in_default c = sym (changed_at-past (with_lines (c.args.line ∷ [])) c.args.place c.args.sections.now.items (⊎_elim within (λ past. past) (cases_lt c.args.place (length c.args.sections.now.items))))
  where
    within : c.args.place < length c.args.sections.now.items → length c.args.sections.now.items ≤ c.args.place
    within less = let found : false ≡ true = c.in_default.ensures.variant.1 (omega (arith, less, c.args.sections.now.ok)) in absurd (cc)
