use Rattle.std.proofs.Common.{◌≡◌, ◌<◌, ◌^◌, ◌++◌, ◌∷◌, [], sym, ap, ◌∙◌, rules}
use Rattle.dp_pattern.specs.Classes.{kept_members, members_in}
use Rattle.dp_pattern.proofs.ClassLemmas.{class_by-byte}
use Rattle.dp_pattern.proofs.KeptLemmas.{members_in-digits}
use Rattle.dp_pattern.proofs.class_members.ClassMembers.push_to.Goals as goal

pub returns-in_ok-push-in-Byte : goal.returns-in_ok-push-in-Byte
returns-in_ok-push-in-Byte c =
    let byte = c.in-Byte.only in
    let fits : byte < 256 = search rules in
    let pushed : c.push.new.self.items ≡ c.args.bytes.now.items ++ byte ∷ [] = search rules in
    pushed ∙ ap (λ xs. c.args.bytes.now.items ++ xs) (sym (ap kept_members c.in-Byte.is ∙ class_by-byte byte fits))

pub returns-in_ok-push_word-in-Digits : goal.returns-in_ok-push_word-in-Digits
returns-in_ok-push_word-in-Digits c =
    let mask = c.in-Digits.mask in
    let fits : mask < 2 ^ 16 = search rules in
    let pushed : c.push_word.new.bytes.items ≡ c.args.bytes.now.items ++ members_in mask 48 = search rules in
    pushed ∙ ap (λ xs. c.args.bytes.now.items ++ xs) (members_in-digits mask fits ∙ sym (ap kept_members c.in-Digits.is))
