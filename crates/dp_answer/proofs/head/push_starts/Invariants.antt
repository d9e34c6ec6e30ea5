use Rattle.std.proofs.Common.{◌≡◌, ◌++◌, drop, map}
use Rattle.std.specs.List.{flat_map}
use Rattle.dp_answer.specs.Reports.{start_text}
use Rattle.dp_answer.proofs.head.push_starts.Given as goal

abbrev pub invariant-loop-start : goal.invariant-loop-start
invariant-loop-start l = l.out.items ++ flat_map start_text (map (λ name. name.items) (drop l.start-index l.starts))
    ≡ l.fn.out.items ++ flat_map start_text (map (λ name. name.items) l.starts)
