use Rattle.std.proofs.Common.{◌≡◌, ◌<◌, ◌≤◌, ℕ, List, false, true, length, refl, ap, sym, ◌∙◌, ⊎_elim, arith}
use Rattle.std.proofs.lemmas.Bool.{cases_lt}
use Rattle.dp_conf.proofs.ChangesLemmas.{changed_at-set, changed_at-past}
use Rattle.dp_files.specs.declared.source_line.MadeLine.{MadeLine}
use Rattle.dp_notices.specs.TimedIncludes.{line_at, text_at}
use Rattle.dp_notices.proofs.timed_includes.set_line.Goals as goal

pub returns-in_ok-text_at : goal.returns-in_ok-text_at
returns-in_ok-text_at c =
    let within : c.args.place < length c.args.lines.now.items = omega (arith, c.in-Some.ensures.variant.0 refl, c.args.lines.now.ok) in
    changed_at-set (line_at c.args.moment) c.args.place c.args.lines.now.items c.in-Some.line.now _ within c.in-Some.ensures.value
    (ap (λ (text : List ℕ). let line : MadeLine = record { source = c.in-Some.line.now.source; text = text } in line)
    (c.new.ensures ∙ (c.in_ok-text_at.ensures ∙ ap (text_at c.args.moment) c.bytes.ensures)))

pub returns-in_default : goal.returns-in_default
returns-in_default c = sym (changed_at-past (line_at c.args.moment) c.args.place c.args.lines.now.items (⊎_elim within (λ past. past) (cases_lt c.args.place (length c.args.lines.now.items))))
  where
    within : c.args.place < length c.args.lines.now.items → length c.args.lines.now.items ≤ c.args.place
    within less = let found : false ≡ true = c.in_default.ensures.variant.1 (omega (arith, less, c.args.lines.now.ok)) in absurd (cc)
