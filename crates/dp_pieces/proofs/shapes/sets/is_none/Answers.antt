use Rattle.std.proofs.Common.{◌∙◌, sym, ap}
use Rattle.dp_pieces.specs.Sets.{set_by}
use Rattle.dp_pieces.proofs.BlankLemmas.{none-has}
use Rattle.dp_pieces.proofs.shapes.sets.is_none.Goals as goal

pub returns : goal.returns
returns c = λ is byte has. sym (ap (λ s. set_by s byte) c.none.ensures ∙ none-has 4 byte) ∙ c.is_part.ensures.part is byte has
