use Rattle.dp_json.proofs.ReachesLemmas.{count_answer}
use Rattle.dp_json.proofs.laws.each_part_of_an_answer_has_one_line.Goals as goal

pub returns : goal.returns
returns c = count_answer
