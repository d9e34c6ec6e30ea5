use Rattle.std.proofs.Common.{◌≡◌, true, false, eqb, rules, tests}
use Rattle.std.specs.List.{list_any}
use Rattle.dp_files.proofs.SectionLemmas.{item_ok_at}
use Rattle.dp_files.proofs.sections.is_pair.Goals as goal

pub returns-then-byte-ne35 : goal.returns-then-byte-ne35
returns-then-byte-ne35 c contains =
    let no_header : eqb c.in-Some.byte.now 91 ≡ false = search (rules, tests) in
    let no_directive : eqb c.in-Some.byte.now 35 ≡ false = search (rules, tests) in
    let has : list_any (λ x. eqb x 61) c.args.content.now ≡ true = search (rules, tests) in
    item_ok_at c.args.content.now c.in-Some.byte.now c.in-Some.field-0-1.now c.in-Some.ensures.cases.0 no_header no_directive has
