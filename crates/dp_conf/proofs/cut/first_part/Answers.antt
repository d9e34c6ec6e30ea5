use Rattle.dp_conf.proofs.CutLemmas.{parts_of-whole, parts_of-cut}
use Rattle.dp_conf.proofs.cut.first_part.Goals as goal

pub returns-in-None-clause-parts : goal.returns-in-None-clause-parts
returns-in-None-clause-parts c = parts_of-whole c.args.text.now c.in-None.ensures

pub returns-in-Some-clause-parts : goal.returns-in-Some-clause-parts
returns-in-Some-clause-parts c = parts_of-cut c.args.text.now c.in-Some.part.now c.in-Some.rest.now c.in-Some.ensures
