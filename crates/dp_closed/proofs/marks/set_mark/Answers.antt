use Rattle.std.proofs.Common.{◌≡◌, ◌<◌, ◌≤◌, false, true, length, refl, sym, ⊎_elim, arith}
use Rattle.std.proofs.lemmas.Bool.{cases_lt}
use Rattle.dp_conf.proofs.ChangesLemmas.{changed_at-set, changed_at-past}
use Rattle.dp_closed.proofs.marks.set_mark.Goals as goal

pub returns-in-Some : goal.returns-in-Some
returns-in-Some c =
    let within : c.args.number < length c.args.marks.now.items = omega (arith, c.in-Some.ensures.variant.0 refl, c.args.marks.now.ok) in
    changed_at-set (λ mark. true) c.args.number c.args.marks.now.items c.in-Some.mark.now true within c.in-Some.ensures.value refl

pub returns-in_default : goal.returns-in_default
returns-in_default c = sym (changed_at-past (λ mark. true) c.args.number c.args.marks.now.items (⊎_elim within (λ past. past) (cases_lt c.args.number (length c.args.marks.now.items))))
  where
    within : c.args.number < length c.args.marks.now.items → length c.args.marks.now.items ≤ c.args.number
    within less = let found : false ≡ true = c.in_default.ensures.variant.1 (omega (arith, less, c.args.marks.now.ok)) in absurd (cc)
