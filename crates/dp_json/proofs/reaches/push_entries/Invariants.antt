use Rattle.std.proofs.Common.{◌≡◌, ◌++◌, drop}
use Rattle.dp_json.specs.Objects.{lines_text}
use Rattle.dp_json.specs.Reaches.{entry_objects}
use Rattle.dp_json.proofs.reaches.push_entries.Given as goal

-- with the lines of the rest, all lines are added
abbrev pub invariant-loop-id : goal.invariant-loop-id
invariant-loop-id l =
    l.out.items ++ lines_text (entry_objects l.plan (drop l.id-index l.ids)) ≡ l.fn.out.items ++ lines_text (entry_objects l.plan l.ids)
