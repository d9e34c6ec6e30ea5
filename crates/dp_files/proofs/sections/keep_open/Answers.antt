use Rattle.std.proofs.Common.{◌≡◌, ◌<◌, ◌≤◌, Some, false, true, length, refl, sym, ⊎_elim, arith}
use Rattle.std.proofs.lemmas.Bool.{cases_lt}
use Rattle.dp_conf.proofs.ChangesLemmas.{changed_at-set, changed_at-past}
use Rattle.dp_files.proofs.sections.keep_open.Goals as goal

pub returns-in-Some : goal.returns-in-Some
returns-in-Some c =
    let within : c.args.file < length c.args.open_in.now.items = omega (arith, c.in-Some.ensures.variant.0 refl, c.args.open_in.now.ok) in
    changed_at-set (λ _. Some c.args.current) c.args.file c.args.open_in.now.items c.in-Some.after.now _ within c.in-Some.ensures.value refl

pub returns-in_default : goal.returns-in_default
returns-in_default c = sym (changed_at-past (λ _. Some c.args.current) c.args.file c.args.open_in.now.items (⊎_elim within (λ past. past) (cases_lt c.args.file (length c.args.open_in.now.items))))
  where
    within : c.args.file < length c.args.open_in.now.items → length c.args.open_in.now.items ≤ c.args.file
    within less = let found : false ≡ true = c.in_default.ensures.variant.1 (omega (arith, less, c.args.open_in.now.ok)) in absurd (cc)
