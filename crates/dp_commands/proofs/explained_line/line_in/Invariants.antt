use Rattle.std.proofs.Common.{◌≡◌, [], slice_get, unwrap_or}
use Rattle.dp_conf.specs.Lines.{parts_of}
use Rattle.dp_commands.specs.Explained.{line_among}
use Rattle.dp_conf.proofs.LinesLemmas.{parts_left, left_len}
use Rattle.dp_commands.proofs.explained_line.line_in.Given as goal

abbrev pub invariant-loop-rest : goal.invariant-loop-rest
invariant-loop-rest l = unwrap_or (slice_get (parts_left l.rest) l.before) [] ≡ line_among (parts_of l.fn.text) l.fn.number

abbrev pub decreases-loop-rest : goal.decreases-loop-rest
decreases-loop-rest l = left_len l.rest
