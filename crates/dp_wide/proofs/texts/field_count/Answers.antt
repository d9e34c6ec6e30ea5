use Rattle.std.proofs.Common.{◌≡◌, ℕ, eqb, length, rules, tests, arith}
use Rattle.std.specs.List.{filter}
use Rattle.std.proofs.lemmas.Iterator.{YieldsList-from_slice}
use Rattle.std.proofs.lemmas.Iterator.Consumers.{YieldsList-from_filter, count_from_yields_List}
use Rattle.std.proofs.lemmas.List.Splits.{length-slice_split}
use Rattle.std.proofs.lemmas.List.Sums.{length-filter}
use Rattle.std.proofs.lemmas.Grind.{common_steps}
use Rattle.dp_wide.proofs.texts.field_count.Goals as goal

pub returns : goal.returns
returns c =
    let test = λ (byte : ℕ). eqb byte c.args.delimiter in
    let value = c.args.value.now in
    let count : c.count.result ≡ length (filter test value) =
    count_from_yields_List c.filter.result _ c.count.ensures.ran
    (YieldsList-from_filter _ test (YieldsList-from_slice value (cc)) c.filter.ensures.closure (λ x b q k. search (rules, tests))) in
    let parts = length-slice_split test value in
    let filtered = length-filter test value in
    grind (arith, common_steps, count, parts, filtered)
