use Rattle.std.proofs.Common.{◌<◌, ◌^◌, length, sym, ap, ◌∙◌, arith, rules}
use Rattle.dp_pattern.specs.Classes.{kept_members}
use Rattle.dp_pattern.proofs.ClassLemmas.{class_by-byte}
use Rattle.dp_pattern.proofs.KeptLemmas.{members_in-digits}
use Rattle.dp_pattern.proofs.WordLemmas.{length-members_in}
use Rattle.dp_pattern.proofs.class_members.ClassMembers.size.Goals as goal

pub returns-in-Byte : goal.returns-in-Byte
returns-in-Byte c =
    let fits : c.in-Byte.only < 256 = search rules in
    sym (ap (λ kept. length (kept_members kept)) c.in-Byte.is ∙ ap length (class_by-byte c.in-Byte.only fits))

pub returns-in-Digits : goal.returns-in-Digits
returns-in-Digits c =
    let mask = c.in-Digits.mask in
    let fits : mask < 2 ^ 16 = search rules in
    sym (ap (λ kept. length (kept_members kept)) c.in-Digits.is ∙ ap length (sym (members_in-digits mask fits)) ∙ length-members_in mask 48 (omega arith))
