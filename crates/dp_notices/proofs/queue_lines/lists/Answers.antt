use Rattle.std.proofs.Common.{eqb, rules, tests}
use Rattle.std.proofs.lemmas.Iterator.Search.{any_from_yields_List}
use Rattle.std.proofs.lemmas.Iterator.Splits.{YieldsList-from_slice_split}
use Rattle.dp_conf.specs.Words.{same_word}
use Rattle.dp_notices.proofs.queue_lines.lists.Goals as goal

pub returns : goal.returns
returns c =
    any_from_yields_List (λ other. same_word other c.args.word.now) _ _ _ c.any.ensures.ran
    (YieldsList-from_slice_split _ (λ byte. eqb byte 44) c.args.value.now c.split.ensures.rest c.split.ensures.done c.split.ensures.closure (λ x b q k. search (rules, tests)))
    (λ x b q k. search (rules, tests))
