-- The parts of a text follow from its first cut.
use Rattle.std.proofs.Common.{ap, ◌∙◌}
use Rattle.dp_conf.proofs.LevelLemmas.{parts_by, parts_of-cut}
use Rattle.dp_conf.proofs.cut.first_argument.Goals as goal

pub returns-in-None-clause-parts : goal.returns-in-None-clause-parts
returns-in-None-clause-parts c = parts_of-cut c.args.text.now ∙ ap (parts_by c.args.text.now) c.in-None.ensures.cut

pub returns-in-Some-clause-parts : goal.returns-in-Some-clause-parts
returns-in-Some-clause-parts c = parts_of-cut c.args.text.now ∙ ap (parts_by c.args.text.now) c.in-Some.ensures.cut
