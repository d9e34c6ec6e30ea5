use Rattle.std.proofs.Common.{◌∙◌}
use Rattle.dp_pieces.specs.Shown.{shown_all}
use Rattle.dp_pieces.proofs.RuleLemmas.{rule-first}
use Rattle.dp_pieces.proofs.cuts.cut_pieces.Goals as goal

pub returns : goal.returns
returns c = c.cut_by.ensures ∙ rule-first c.args.mark 0 (shown_all c.args.pieces.now)
