use Rattle.std.proofs.Common.{◌≡◌, true, false, ◌&&◌, not, eqb, sym, ◌∙◌}
use Rattle.dp_conf.specs.Lines.{opens_block}
use Rattle.dp_files.specs.Comments.{rest_of_line}
use Rattle.dp_files.proofs.CommentsLemmas.{stands-empty, stands-comment}
use Rattle.dp_files.proofs.comments.begins_block.Goals as goal

-- the first comment
pub returns-then-begins_comment : goal.returns-then-begins_comment
unfolding rest_of_line
returns-then-begins_comment c line none =
    let l = c.loop-byte in
    let comment : (eqb c.in-Some.byte.now 59 && not (eqb l.previous 92)) ≡ true = sym c.begins_comment.ensures ∙ c.if-begins_comment.true in
    let opens : opens_block l.left.now ≡ false = sym c.opens_block.ensures ∙ none in
    l.invariant line (stands-comment line l.previous c.in-Some.byte.now c.in-Some.rest.now l.left.now c.in-Some.ensures.cases.0 comment opens)

-- there is no comment
pub returns : goal.returns
unfolding rest_of_line
returns c line _ = c.loop-byte.invariant line (stands-empty line c.loop-byte.previous c.loop-byte.left.now c.in_default.ensures.cases)
