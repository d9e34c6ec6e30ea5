use Rattle.std.proofs.Common.{◌≡◌, ◌<◌, ◌≤◌, ℕ, List, false, true, length, refl, ap, sym, ◌∙◌, ⊎_elim, arith}
use Rattle.std.proofs.lemmas.Bool.{cases_lt}
use Rattle.dp_conf.proofs.ChangesLemmas.{changed_at-set, changed_at-past}
use Rattle.dp_files.specs.declared.source_line.MadeLine.{MadeLine}
use Rattle.dp_notices.specs.Loading.{without_text}
use Rattle.dp_notices.proofs.loading.empty_line.Goals as goal

pub returns-in-Some : goal.returns-in-Some
returns-in-Some c =
    let within : c.args.place < length c.args.lines.now.items = omega (arith, c.in-Some.ensures.variant.0 refl, c.args.lines.now.ok) in
    changed_at-set without_text c.args.place c.args.lines.now.items c.in-Some.line.now _ within c.in-Some.ensures.value
    (ap (λ (text : List ℕ). let line : MadeLine = record { source = c.in-Some.line.now.source; text = text } in line) (c.new.ensures ∙ c.in_ok-empty.ensures))

pub returns-in_default : goal.returns-in_default
returns-in_default c = sym (changed_at-past without_text c.args.place c.args.lines.now.items (⊎_elim within (λ past. past) (cases_lt c.args.place (length c.args.lines.now.items))))
  where
    within : c.args.place < length c.args.lines.now.items → length c.args.lines.now.items ≤ c.args.place
    within less = let found : false ≡ true = c.in_default.ensures.variant.1 (omega (arith, less, c.args.lines.now.ok)) in absurd (cc)
