use Rattle.std.proofs.Common.{◌≡◌, drop, true, false, ap, sym, ◌∙◌}
use Rattle.dp_conf.specs.Lines.{opens_block}
use Rattle.dp_files.specs.Comments.{closes_block, uncovered_from}
use Rattle.dp_files.proofs.CommentsLemmas.{uncovered_from-opens, uncovered_from-closes, uncovered_from-covered, rest_range}
use Rattle.dp_files.proofs.comments.pass_covered.Goals as goal

pub returns-then-opens_block-clause-rest : goal.returns-then-opens_block-clause-rest
returns-then-opens_block-clause-rest c previous =
    let opens : opens_block c.args.text.now ≡ true = sym c.opens_block.ensures ∙ c.if-opens_block.true in
    ap (uncovered_from c.args.line 0 c.open.new.self 10) (rest_range 3 c.args.text.now)
    ∙ ap (λ unclosed. uncovered_from c.args.line 0 unclosed 10 (drop 3 c.args.text.now)) c.in_ok-open.ensures
    ∙ uncovered_from-opens c.args.line c.args.open.now previous c.args.text.now c.requires.open opens

pub returns-then-closes_block-clause-rest : goal.returns-then-closes_block-clause-rest
returns-then-closes_block-clause-rest c previous =
    let opens : opens_block c.args.text.now ≡ false = sym c.opens_block.ensures ∙ c.if-opens_block.false in
    let closes : closes_block c.args.text.now ≡ true = sym c.closes_block.ensures ∙ c.if-closes_block.true in
    ap (uncovered_from c.args.line 0 c.close.new.self 10) (rest_range 3 c.args.text.now)
    ∙ ap (λ unclosed. uncovered_from c.args.line 0 unclosed 10 (drop 3 c.args.text.now)) c.close.ensures
    ∙ uncovered_from-closes c.args.line c.args.open.now previous c.args.text.now c.requires.open opens closes

pub returns-clause-rest : goal.returns-clause-rest
returns-clause-rest c previous =
    let opens : opens_block c.args.text.now ≡ false = sym c.opens_block.ensures ∙ c.if-opens_block.false in
    let closes : closes_block c.args.text.now ≡ false = sym c.closes_block.ensures ∙ c.if-closes_block.false in
    ap (uncovered_from c.args.line 0 c.args.open.now 10) (rest_range 1 c.args.text.now)
    ∙ uncovered_from-covered c.args.line c.args.open.now previous c.args.text.now c.requires.open opens closes
