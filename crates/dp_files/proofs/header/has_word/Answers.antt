use Rattle.std.proofs.Common.{rules, tests}
use Rattle.std.proofs.lemmas.Iterator.{YieldsList-from_map_by}
use Rattle.std.proofs.lemmas.Iterator.Consumers.{YieldsList-at}
use Rattle.std.proofs.lemmas.Iterator.Search.{any_from_yields_List}
use Rattle.std.proofs.lemmas.Iterator.Splits.{YieldsList-from_slice_split}
use Rattle.dp_conf.specs.Blanks.{trim}
use Rattle.dp_conf.specs.Words.{same_text}
use Rattle.dp_files.specs.Headers.{is_comma}
use Rattle.dp_files.proofs.header.has_word.Goals as goal

pub returns : goal.returns
returns c =
    any_from_yields_List (λ other. same_text other c.args.word.now) _ _ _ c.any.ensures.ran
    (YieldsList-from_map_by _ (λ r. r.now) trim
    (YieldsList-at c.map.ensures.source
    (YieldsList-from_slice_split _ is_comma c.args.options.now c.split.ensures.rest c.split.ensures.done c.split.ensures.closure (λ x b q k. search (rules, tests))))
    c.map.ensures.closure (λ x b q k. search rules))
    (λ x b q k. search (rules, tests))
