use Rattle.std.proofs.Common.{◌<◌, ap, ◌∙◌, rules}
use Rattle.dp_pattern.specs.Classes.{kept_members}
use Rattle.dp_pattern.proofs.ClassLemmas.{class_by-byte}
use Rattle.dp_pattern.proofs.class_members.ClassMembers.only.Goals as goal

pub returns-in-Byte : goal.returns-in-Byte
returns-in-Byte c =
    let fits : c.in-Byte.byte < 256 = search rules in
    ap kept_members c.in-Byte.is ∙ class_by-byte c.in-Byte.byte fits
