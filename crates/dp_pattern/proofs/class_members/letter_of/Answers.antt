use Rattle.std.proofs.Common.{ℕ, ap, ◌∙◌}
use Rattle.dp_pattern.specs.Classes.{class_by, has_digit}
use Rattle.dp_pattern.specs.Spelling.{class_spelling}
use Rattle.dp_pattern.proofs.KeptLemmas.{mask-digits, mask-digits_from_1, mask-digits_from_2}
use Rattle.dp_pattern.proofs.class_members.letter_of.Goals as goal

pub returns-in-1023 : goal.returns-in-1023
returns-in-1023 c =
    ap (λ (mask : ℕ). class_spelling (class_by (has_digit mask))) c.in-1023.is ∙ ap class_spelling mask-digits

pub returns-in-1022 : goal.returns-in-1022
returns-in-1022 c =
    ap (λ (mask : ℕ). class_spelling (class_by (has_digit mask))) c.in-1022.is ∙ ap class_spelling mask-digits_from_1

pub returns-in-1020 : goal.returns-in-1020
returns-in-1020 c =
    ap (λ (mask : ℕ). class_spelling (class_by (has_digit mask))) c.in-1020.is ∙ ap class_spelling mask-digits_from_2
