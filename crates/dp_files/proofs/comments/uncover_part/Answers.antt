use Rattle.std.proofs.Common.{◌≡◌, true, false, ◌&&◌, not, eqb, length, ap, sym, ◌∙◌, rules, tests}
use Rattle.dp_conf.specs.Lines.{opens_block}
use Rattle.dp_files.specs.Comments.{Uncovered, rest_of_line}
use Rattle.dp_files.proofs.CommentsLemmas.{uncovered_from-over, uncovered_from-ended}
use Rattle.dp_files.proofs.comments.uncover_part.Goals as goal

-- the rest of the line is a comment
pub returns-else-opens_block : goal.returns-else-opens_block
unfolding rest_of_line
returns-else-opens_block c =
    let l = c.loop-byte in
    let none : length l.open ≡ 0 = search (rules, tests) in
    let comment : (eqb c.in-Some.byte.now 59 && not (eqb l.previous 92)) ≡ true = sym c.begins_comment.ensures ∙ c.if-not-begins_comment.false in
    let opens : opens_block l.left.now ≡ false = sym c.opens_block.ensures ∙ c.if-opens_block.false in
    uncovered_from-ended c.args.line l.open l.previous c.in-Some.byte.now c.in-Some.rest.now l.left.now l.kept.items _ l.invariant c.in-Some.ensures.cases.0 none comment opens
    ∙ ap (λ text. let u : Uncovered = record { text = text; unclosed = l.open } in u) (sym (c.new.ensures ∙ c.in_ok-extend_from_slice.ensures.items))

-- nothing is left of the line
pub returns : goal.returns
unfolding rest_of_line
returns c =
    let l = c.loop-byte in
    uncovered_from-over c.args.line l.open l.previous l.left.now l.kept.items _ l.invariant c.in_default.ensures.cases
    ∙ ap (λ text. let u : Uncovered = record { text = text; unclosed = l.open } in u) (sym c.new-2.ensures)
