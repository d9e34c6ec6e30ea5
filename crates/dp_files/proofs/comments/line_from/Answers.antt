use Rattle.dp_files.proofs.CommentsLemmas.{parts_from-last, parts_from-line}
use Rattle.dp_files.proofs.comments.line_from.Goals as goal

-- the last line
pub returns-in-None-clause-parts : goal.returns-in-None-clause-parts
returns-in-None-clause-parts c = parts_from-last c.args.text.now c.args.start c.in-None.ensures

-- a line before others
pub returns-in-Some-clause-parts : goal.returns-in-Some-clause-parts
returns-in-Some-clause-parts c = parts_from-line c.args.text.now c.in-Some.part.now c.in-Some.field-0-1.now c.args.start c.in-Some.ensures
