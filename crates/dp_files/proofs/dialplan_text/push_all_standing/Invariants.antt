use Rattle.std.proofs.Common.{◌≡◌, ◌++◌, drop}
use Rattle.dp_files.specs.DialplanText.{standing}
use Rattle.dp_files.proofs.dialplan_text.push_all_standing.Given as goal

-- the lines so far with the remaining ones are all lines
abbrev pub invariant-loop-source : goal.invariant-loop-source
invariant-loop-source l =
    l.made.items ++ standing l.lines (drop l.source-index l.places) ≡ l.fn.made.items ++ standing l.lines l.places
