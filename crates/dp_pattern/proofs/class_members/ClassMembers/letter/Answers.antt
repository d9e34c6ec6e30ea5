use Rattle.std.proofs.Common.{◌≡◌, ◌∷◌, [], IfSome, subst, sym}
use Rattle.dp_pattern.specs.Classes.{kept_members}
use Rattle.dp_pattern.specs.Spelling.{class_spelling}
use Rattle.dp_pattern.specs.declared.class_members.ClassMembers.{ClassMembers}
use Rattle.dp_pattern.proofs.class_members.ClassMembers.letter.Goals as goal

pub returns-in-Digits : goal.returns-in-Digits
returns-in-Digits c =
    subst (λ (kept : ClassMembers). IfSome c.letter_of.result (λ letter. class_spelling (kept_members kept) ≡ letter ∷ [])) (sym c.in-Digits.is) c.letter_of.ensures
