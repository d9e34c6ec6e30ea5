use Rattle.dp_wide.proofs.PartsLemmas.{parts_of-whole, parts_of-cut, length-cut_once}
use Rattle.dp_wide.proofs.texts.first_part.Goals as goal

pub returns-in-None-clause-parts : goal.returns-in-None-clause-parts
returns-in-None-clause-parts c = parts_of-whole c.args.delimiter c.args.text.now c.in-None.ensures

pub returns-in-Some-clause-parts : goal.returns-in-Some-clause-parts
returns-in-Some-clause-parts c = parts_of-cut c.args.delimiter c.args.text.now c.in-Some.part.now c.in-Some.rest.now c.in-Some.ensures

pub returns-in-Some-clause-shorter : goal.returns-in-Some-clause-shorter
returns-in-Some-clause-shorter c = length-cut_once c.args.delimiter c.args.text.now c.in-Some.part.now c.in-Some.rest.now c.in-Some.ensures
