use Rattle.std.proofs.Common.{eqb, rules, tests}
use Rattle.std.proofs.lemmas.Iterator.Search.{any_from_yields_List}
use Rattle.std.proofs.lemmas.Iterator.Splits.{YieldsList-from_slice_split}
use Rattle.dp_wide.specs.Times.{writes_value}
use Rattle.dp_wide.proofs.times.is_in_some.Goals as goal

pub returns : goal.returns
returns c =
    any_from_yields_List (writes_value c.args.measure c.args.value) _ _ _ c.any.ensures.ran
    (YieldsList-from_slice_split _ (λ byte. eqb byte 38) c.args.text.now c.split.ensures.rest c.split.ensures.done c.split.ensures.closure (λ x b q k. search (rules, tests)))
    (λ x b q k. search (rules, tests))
