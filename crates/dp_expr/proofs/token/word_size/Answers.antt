use Rattle.std.proofs.Common.{sym, ◌∙◌, arith}
use Rattle.dp_expr.proofs.TokensLemmas.{word_size-in, word_size-end, word_size-all}
use Rattle.dp_expr.proofs.token.word_size.Goals as goal

pub returns-then-not-is_word_byte-clause-size : goal.returns-then-not-is_word_byte-clause-size
returns-then-not-is_word_byte-clause-size c =
    let e = word_size-end c.args.text.now c.loop-index.index (omega arith) (sym c.is_word_byte.ensures ∙ c.if-not-is_word_byte.true) in
    omega arith

pub loop-index-preserved : goal.loop-index-preserved
loop-index-preserved c =
    c.loop-index.invariant
    ∙ word_size-in c.args.text.now c.loop-index.index (omega arith) (sym c.is_word_byte.ensures ∙ c.if-not-is_word_byte.false)

pub returns-clause-size : goal.returns-clause-size
returns-clause-size c =
    let e = word_size-all c.args.text.now c.loop-index.index (omega arith) in
    omega arith
