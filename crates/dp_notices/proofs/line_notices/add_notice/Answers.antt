use Rattle.std.proofs.Common.{◌≡◌, ◌<◌, ◌≤◌, List, false, true, length, refl, ap, sym, ⊎_elim, arith}
use Rattle.std.proofs.lemmas.Bool.{cases_lt}
use Rattle.dp_conf.proofs.ChangesLemmas.{changed_at-set, changed_at-past}
use Rattle.dp_notices.specs.LineNotices.{line_with_notice}
use Rattle.dp_notices.specs.declared.line_notices.NotedLine.{NotedLine}
use Rattle.dp_notices.specs.declared.notice.Notice.{Notice}
use Rattle.dp_notices.proofs.line_notices.add_notice.Goals as goal

pub returns-in_ok-add : goal.returns-in_ok-add
returns-in_ok-add c =
    let within : c.args.notice.source < length c.args.lines.now.items = omega (arith, c.in-Some.ensures.variant.0 refl, c.args.lines.now.ok) in
    changed_at-set (line_with_notice c.args.notice.notice) c.args.notice.source c.args.lines.now.items c.in-Some.line.now _ within c.in-Some.ensures.value
    (ap (λ (notices : List Notice). let line : NotedLine = record { line = c.in-Some.line.now.line; notices = notices } in line) c.in_ok-add.ensures)

pub returns-in_default : goal.returns-in_default
returns-in_default c = sym (changed_at-past (line_with_notice c.args.notice.notice) c.args.notice.source c.args.lines.now.items (⊎_elim within (λ past. past) (cases_lt c.args.notice.source (length c.args.lines.now.items))))
  where
    within : c.args.notice.source < length c.args.lines.now.items → length c.args.lines.now.items ≤ c.args.notice.source
    within less = let found : false ≡ true = c.in_default.ensures.variant.1 (omega (arith, less, c.args.lines.now.ok)) in absurd (cc)
