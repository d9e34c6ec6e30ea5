use Rattle.std.proofs.Common.{◌≡◌, ◌++◌, drop, map}
use Rattle.dp_json.specs.Objects.{lines_text}
use Rattle.dp_json.specs.Reaches.{way_objects}
use Rattle.dp_json.proofs.reaches.push_way.Given as goal

-- with the lines of the rest, all lines are added
abbrev pub invariant-loop-line : goal.invariant-loop-line
invariant-loop-line l =
    l.out.items ++ lines_text (way_objects l.context (map (λ line. line.items) (drop l.line-index l.lines)))
    ≡ l.fn.out.items ++ lines_text (way_objects l.context (map (λ line. line.items) l.lines))
