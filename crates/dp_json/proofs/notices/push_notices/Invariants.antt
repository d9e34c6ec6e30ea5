use Rattle.std.proofs.Common.{◌≡◌, ◌++◌, drop}
use Rattle.dp_json.specs.Notices.{notices_text}
use Rattle.dp_json.proofs.notices.push_notices.Given as goal

-- with the lines of the rest, all lines are added
abbrev pub invariant-loop-noted : goal.invariant-loop-noted
invariant-loop-noted l =
    l.out.items ++ notices_text l.shown l.files (drop l.noted-index l.lines) ≡ l.fn.out.items ++ notices_text l.shown l.files l.lines
