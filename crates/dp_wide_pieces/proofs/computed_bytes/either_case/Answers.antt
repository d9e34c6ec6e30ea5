use Rattle.dp_pieces.specs.Sets.{set_by}
use Rattle.dp_wide_pieces.proofs.CaseLemmas.{case-next}
use Rattle.dp_wide_pieces.proofs.computed_bytes.either_case.Goals as goal

pub loop-byte-preserved : goal.loop-byte-preserved
loop-byte-preserved c = λ b.
    case-next (set_by c.args.set.now b) (set_by c.loop-byte.bytes b) (set_by c.put_other_case.new.bytes b) b c.loop-byte.byte (set_by c.args.set.now) (c.put_other_case.ensures b) (c.loop-byte.invariant b)
