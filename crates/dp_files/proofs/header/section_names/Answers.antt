use Rattle.std.proofs.Common.{rules, tests}
use Rattle.std.proofs.lemmas.Iterator.{YieldsList-from_map_by}
use Rattle.std.proofs.lemmas.Iterator.Consumers.{map_from_collect, YieldsList-at, YieldsList-from_filter}
use Rattle.std.proofs.lemmas.Iterator.Splits.{YieldsList-from_slice_split}
use Rattle.dp_conf.specs.Blanks.{trim}
use Rattle.dp_files.specs.Headers.{is_comma, names_section}
use Rattle.dp_files.proofs.header.section_names.Goals as goal

pub returns : goal.returns
returns c =
    map_from_collect _ c.collect.ensures.ran
    (YieldsList-from_filter _ names_section
    (YieldsList-at c.filter.ensures.source
    (YieldsList-from_map_by _ (λ r. r.now) trim
    (YieldsList-at c.map.ensures.source
    (YieldsList-from_slice_split _ is_comma c.args.options.now c.split.ensures.rest c.split.ensures.done c.split.ensures.closure (λ x b q k. search (rules, tests))))
    c.map.ensures.closure (λ x b q k. search rules)))
    c.filter.ensures.closure (λ x b q k. search rules))
