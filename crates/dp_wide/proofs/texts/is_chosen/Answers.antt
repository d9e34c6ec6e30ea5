use Rattle.std.proofs.Common.{eqb, rules, tests}
use Rattle.std.proofs.lemmas.Iterator.Search.{any_from_yields_List}
use Rattle.std.proofs.lemmas.Iterator.Splits.{YieldsList-from_slice_split}
use Rattle.dp_wide.specs.Texts.{writes_field}
use Rattle.dp_wide.proofs.texts.is_chosen.Goals as goal

pub returns : goal.returns
returns c = λ far.
    any_from_yields_List (writes_field c.args.number) _ _ _ c.any.ensures.ran
    (YieldsList-from_slice_split _ (λ byte. eqb byte 38) c.args.fields.now c.split.ensures.rest c.split.ensures.done c.split.ensures.closure (λ x b q k. search (rules, tests)))
    (λ x b q k. search (rules, tests))
