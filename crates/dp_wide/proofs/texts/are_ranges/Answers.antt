use Rattle.std.proofs.Common.{eqb, rules, tests, is_some}
use Rattle.std.proofs.lemmas.Iterator.Search.{all_from_yields_List}
use Rattle.std.proofs.lemmas.Iterator.Splits.{YieldsList-from_slice_split}
use Rattle.dp_wide.specs.Texts.{range_of}
use Rattle.dp_wide.proofs.texts.are_ranges.Goals as goal

pub returns : goal.returns
returns c =
    all_from_yields_List (λ part. is_some (range_of part)) _ _ _ c.all.ensures.ran
    (YieldsList-from_slice_split _ (λ byte. eqb byte 38) c.args.fields.now c.split.ensures.rest c.split.ensures.done c.split.ensures.closure (λ x b q k. search (rules, tests)))
    (λ x b q k. search (rules, tests))
