use Rattle.std.proofs.Common.{sym, ◌∙◌, arith}
use Rattle.dp_pattern.specs.Dashes.{without_dashes}
use Rattle.dp_pattern.proofs.WalkLemmas.{walk_after-short}
use Rattle.dp_pattern.proofs.walk.walk_plain.Goals as goal

pub returns-in_default : goal.returns-in_default
returns-in_default c =
    sym (walk_after-short c.args.plain.now (without_dashes c.loop-byte.rest.now) c.loop-byte.byte-index (omega arith) c.in_default.ensures)
    ∙ c.loop-byte.invariant
