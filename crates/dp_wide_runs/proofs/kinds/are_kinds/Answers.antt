use Rattle.std.proofs.Common.{eqb, rules, tests}
use Rattle.std.proofs.lemmas.Iterator.Search.{all_from_yields_List}
use Rattle.std.proofs.lemmas.Iterator.Splits.{YieldsList-from_slice_split}
use Rattle.dp_conf.specs.Blanks.{trim}
use Rattle.dp_wide_runs.specs.Kinds.{is_kind}
use Rattle.dp_wide_runs.proofs.kinds.are_kinds.Goals as goal

pub returns : goal.returns
returns c =
    all_from_yields_List (λ word. is_kind c.args.is_wide (trim word)) _ _ _ c.all.ensures.ran
    (YieldsList-from_slice_split _ (λ byte. eqb byte 44) c.args.text.now c.split.ensures.rest c.split.ensures.done c.split.ensures.closure (λ x b q k. search (rules, tests)))
    (λ x b q k. search (rules, tests))
