use Rattle.std.proofs.Common.{◌≡◌, ◌≤◌}
use Rattle.dp_pieces.specs.Shown.{shown_all}
use Rattle.dp_pieces.specs.steps.Stands.{cut_rule}
use Rattle.dp_pieces.proofs.RuleLemmas.{cut_from}
use Rattle.dp_pieces.proofs.cuts.cut_by.Given as goal

abbrev pub invariant-loop-at : goal.invariant-loop-at
invariant-loop-at l = record {
  bound : l.level ≤ l.at;
  cut : cut_from l.rule l.level l.at l.pieces ≡ cut_rule l.rule 0 (shown_all l.pieces);
}
