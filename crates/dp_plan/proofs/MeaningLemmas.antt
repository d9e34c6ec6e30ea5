-- Names with one spelling have one meaning.
use Rattle.std.proofs.Common.{◌≡◌, true, ap}
use Rattle.std.specs.Cmp.Lexicographic.{bytes_decides}
use Rattle.dp_pattern.specs.Name.{Meaning, IsName, meaning_of}
use Rattle.dp_pattern.specs.Spelling.{spelling}
use Rattle.dp_pattern.proofs.SpellingLemmas.{spelled_again}
use Rattle.dp_plan.specs.Extensions.{same_name}

-- a spelling reads as exactly one meaning
pub one_meaning : (a b : Meaning) → IsName a → IsName b → same_name a b ≡ true → a ≡ b
one_meaning a b named_a named_b same =
    let read_a = spelled_again a named_a in
    let read_b = spelled_again b named_b in
    let spelled = ap meaning_of ((bytes_decides (spelling a) (spelling b)).0 same) in
    cc
