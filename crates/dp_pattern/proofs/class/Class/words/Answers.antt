use Rattle.std.proofs.Common.{ap, ◌∙◌, sym}
use Rattle.dp_pattern.specs.Classes.{has_member}
use Rattle.dp_pattern.specs.Name.{is_one_of}
use Rattle.dp_pattern.proofs.ClassLemmas.{is_one_of-class_by}
use Rattle.dp_pattern.proofs.class.Class.words.Goals as goal

pub returns : goal.returns
returns c = λ b below. c.words.ensures b below ∙ (sym (is_one_of-class_by (has_member c.self.inside.members) b below) ∙ ap (λ bytes. is_one_of bytes b) c.self.view_is)
