use Rattle.dp_pattern.proofs.SpelledBytes.{spells_cleanly}
use Rattle.dp_pattern.proofs.name.spelling_is_clean.Goals as goal

pub returns : goal.returns
returns c = spells_cleanly
