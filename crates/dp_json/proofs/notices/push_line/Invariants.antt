use Rattle.std.proofs.Common.{◌≡◌, ◌++◌, drop}
use Rattle.dp_json.specs.Notices.{notice_lines}
use Rattle.dp_json.proofs.notices.push_line.Given as goal

-- with the lines of the rest, all lines are added
abbrev pub invariant-loop-notice : goal.invariant-loop-notice
invariant-loop-notice l =
    l.out.items ++ notice_lines l.shown l.named.file.now l.named.line.now (drop l.notice-index l.notices)
    ≡ l.fn.out.items ++ notice_lines l.shown l.named.file.now l.named.line.now l.notices
