use Rattle.std.proofs.Common.{sym, ◌∙◌}
use Rattle.dp_files.proofs.OldFormLemmas.{old_form_empty}
use Rattle.dp_files.proofs.context_line.is_old_form.Goals as goal

-- no byte is left
pub returns : goal.returns
returns c = sym (old_form_empty c.loop-byte.left.now c.in_default.ensures.cases) ∙ c.loop-byte.invariant
