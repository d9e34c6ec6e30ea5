use Rattle.std.proofs.Common.{sym, ◌∙◌, arith}
use Rattle.dp_expr.proofs.TokensLemmas.{quoted_size-in, quoted_size-end, quoted_size-all}
use Rattle.dp_expr.proofs.token.quoted_size.Goals as goal

pub returns-then-byte-eq34-clause-size : goal.returns-then-byte-eq34-clause-size
returns-then-byte-eq34-clause-size c =
    sym (c.loop-index.invariant ∙ quoted_size-end c.args.text.now c.loop-index.index (omega arith) c.if-byte-eq34.true)

pub loop-index-preserved : goal.loop-index-preserved
loop-index-preserved c =
    c.loop-index.invariant
    ∙ quoted_size-in c.args.text.now c.loop-index.index (omega arith) c.if-byte-eq34.false

pub returns-clause-size : goal.returns-clause-size
returns-clause-size c =
    sym (c.loop-index.invariant ∙ quoted_size-all c.args.text.now c.loop-index.index (omega arith))
