use Rattle.std.proofs.Common.{eqb, rules, tests}
use Rattle.std.proofs.lemmas.Iterator.Search.{all_from_yields_List}
use Rattle.std.proofs.lemmas.Iterator.Splits.{YieldsList-from_slice_split}
use Rattle.dp_notices.specs.QueueLines.{is_uncounted}
use Rattle.dp_notices.proofs.queue_lines.is_list.Goals as goal

pub returns : goal.returns
returns c =
    all_from_yields_List is_uncounted _ _ _ c.all.ensures.ran
    (YieldsList-from_slice_split _ (λ byte. eqb byte 44) c.args.value.now c.split.ensures.rest c.split.ensures.done c.split.ensures.closure (λ x b q k. search (rules, tests)))
    (λ x b q k. search (rules, tests))
