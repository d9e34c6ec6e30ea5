use Rattle.std.proofs.Common.{◌≡◌, length, true, arith, rules}
use Rattle.dp_pattern.specs.Classes.{has_bit, members_of}
use Rattle.dp_pattern.proofs.KeptLemmas.{class_by-only}
use Rattle.dp_pattern.proofs.class_members.only_of.Goals as goal

pub returns-in-Some : goal.returns-in-Some
returns-in-Some c =
    let words = c.args.words.now in
    let has : has_bit words c.in-Some.byte ≡ true = search rules in
    let one : length (members_of words) ≡ 1 = omega arith in
    class_by-only (has_bit words) c.in-Some.byte (omega arith) one has
