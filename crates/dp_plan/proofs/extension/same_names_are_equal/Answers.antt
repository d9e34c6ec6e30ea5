use Rattle.std.proofs.Common.{◌≡◌, true, ap}
use Rattle.std.specs.Cmp.Lexicographic.{bytes_decides}
use Rattle.dp_pattern.specs.Name.{Meaning}
use Rattle.dp_pattern.specs.Spelling.{spelling}
use Rattle.dp_plan.specs.Extensions.{same_name}
use Rattle.dp_plan.proofs.MeaningLemmas.{one_meaning}
use Rattle.dp_plan.proofs.extension.same_names_are_equal.Goals as goal

-- one meaning has one spelling
one_spelling : (a b : Meaning) → a ≡ b → same_name a b ≡ true
one_spelling a b same = (bytes_decides (spelling a) (spelling b)).1 (ap spelling same)

pub returns : goal.returns
returns c = λ a b named_a named_b. (one_meaning a b named_a named_b, one_spelling a b)
