use Rattle.std.proofs.Common.{◌≡◌, ◌++◌, length}
use Rattle.std.specs.List.{flat_map}
use Rattle.dp_audit.specs.Candidates.{extensions}
use Rattle.dp_graph.specs.Picture.{extension_arrows}
use Rattle.dp_graph.specs.Printing.{arrows_text}
use Rattle.dp_graph.proofs.arrows.push_extensions.Given as goal

-- with the arrows of the rest, all arrows are added
abbrev pub invariant-loop-rest : goal.invariant-loop-rest
invariant-loop-rest l = record {
  added : l.out.items ++ arrows_text (flat_map (extension_arrows l.fn.finder l.exits l.number) (extensions l.fn.finder l.rest))
      ≡ l.fn.out.items ++ arrows_text (flat_map (extension_arrows l.fn.finder l.exits l.number) (extensions l.fn.finder l.ids));
  same : l.finder ≡ l.fn.finder;
}

abbrev pub decreases-loop-rest : goal.decreases-loop-rest
decreases-loop-rest l = length l.rest
