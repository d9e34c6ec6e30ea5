use Rattle.std.proofs.Common.{◌≡◌, ◌++◌, drop}
use Rattle.dp_json.specs.Objects.{lines_text}
use Rattle.dp_json.specs.Reaches.{contexts_objects}
use Rattle.dp_json.proofs.reaches.push_contexts.Given as goal

-- with the lines of the rest, all lines are added
abbrev pub invariant-loop-context : goal.invariant-loop-context
invariant-loop-context l = record {
  number : l.number ≡ l.context-index;
  lines : l.out.items ++ lines_text (contexts_objects l.plan l.number (drop l.context-index l.contexts))
      ≡ l.fn.out.items ++ lines_text (contexts_objects l.plan 0 l.contexts);
}
