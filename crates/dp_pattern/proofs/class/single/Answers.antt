use Rattle.std.proofs.Common.{arith}
use Rattle.dp_pattern.proofs.ClassLemmas.{class_by-byte}
use Rattle.dp_pattern.proofs.class.single.Goals as goal

pub returns : goal.returns
returns c = class_by-byte c.args.byte (omega arith)
