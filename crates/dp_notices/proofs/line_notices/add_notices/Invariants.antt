use Rattle.std.proofs.Common.{◌≡◌, drop}
use Rattle.dp_notices.specs.LineNotices.{after_notices}
use Rattle.dp_notices.proofs.line_notices.add_notices.Given as goal

abbrev pub invariant-loop-notice : goal.invariant-loop-notice
invariant-loop-notice l = after_notices l.lines.items (drop l.notice-index l.notices) ≡ after_notices l.fn.lines.items l.notices
