use Rattle.std.proofs.Common.{rules, ℕ, Bool, ◌==◌}
use Rattle.std.proofs.lemmas.Iterator.Consumers.{map_from_collect}
use Rattle.std.proofs.lemmas.Iterator.Splits.{YieldsList-from_slice_split}
use Rattle.dp_conf.specs.Lines.{line_feed}
use Rattle.dp_program.proofs.assumptions.lines_of.Goals as goal

-- the byte that ends a line
abbrev is_feed : ℕ → Bool
is_feed byte = byte == line_feed

pub returns : goal.returns
returns c =
    map_from_collect _ c.collect.ensures.ran
    (YieldsList-from_slice_split _ is_feed c.args.text.now c.split.ensures.rest c.split.ensures.done c.split.ensures.closure (λ x b q k. search rules))
