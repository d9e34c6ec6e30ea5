use Rattle.std.proofs.Common.{◌≡◌, take}
use Rattle.std.specs.List.{flat_map}
use Rattle.dp_diff.specs.Differences.{differences_in}
use Rattle.dp_diff.specs.steps.Telling.{HasTold, writer_of}
use Rattle.dp_diff.proofs.diff.tell_contexts.Given as goal

-- the differences in the contexts so far are told
abbrev pub invariant-loop-context : goal.invariant-loop-context
invariant-loop-context g l = record {
  told : HasTold (writer_of (g.W.WriteTold.contents l.fn.writer) (g.W.WriteTold.has_failed l.fn.writer)) l.fn.sheet
      (writer_of (g.W.WriteTold.contents l.writer) (g.W.WriteTold.has_failed l.writer)) l.sheet
      (flat_map (λ context. differences_in l.fn.change.0 l.fn.change.1 context.name) (take l.context-index l.contexts));
  same : l.change ≡ l.fn.change;
}
