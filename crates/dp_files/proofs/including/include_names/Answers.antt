use Rattle.std.proofs.Common.{◌≡◌, ◌<◌, ◌≤◌, false, eqb, length, sym, ◌∙◌, arith}
use Rattle.std.proofs.lemmas.Bool.{eqb-false}
use Rattle.dp_files.specs.Reading.{after_name, request_now}
use Rattle.dp_files.proofs.ReadingLemmas.{fold_over, after_names_some}
use Rattle.dp_files.proofs.including.include_names.Goals as goal

-- each of some names was read
pub returns-clause-read : goal.returns-clause-read
returns-clause-read g c has agrees =
    let names = c.args.names.now in
    let request = request_now c.args.request in
    let include = g.I.Including.after has in
    let filled : eqb (length names) 0 ≡ false = sym c.is_empty.ensures ∙ c.if-is_empty.false in
    let some : 0 < length names = omega (arith, eqb-false (length names) 0 filled) in
    let over : length names ≤ c.loop-name.name-index = omega (arith, c.loop-name-test.false) in
    sym (fold_over (after_name include has request) c.loop-name.reading c.loop-name.name-index names over)
    ∙ c.loop-name.invariant.read has agrees
    ∙ after_names_some include has request names c.args.reading.now some
