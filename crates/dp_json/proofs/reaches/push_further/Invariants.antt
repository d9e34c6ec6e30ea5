use Rattle.std.proofs.Common.{◌≡◌, ◌++◌, drop, map}
use Rattle.dp_json.specs.Objects.{lines_text}
use Rattle.dp_json.specs.Reaches.{further_objects}
use Rattle.dp_json.proofs.reaches.push_further.Given as goal

-- with the lines of the rest, all lines are added
abbrev pub invariant-loop-line : goal.invariant-loop-line
invariant-loop-line l =
    l.out.items ++ lines_text (further_objects (map (λ line. line.items) (drop l.line-index l.lines)))
    ≡ l.fn.out.items ++ lines_text (further_objects (map (λ line. line.items) l.lines))
