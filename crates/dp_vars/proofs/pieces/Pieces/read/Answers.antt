use Rattle.std.proofs.Common.{sym, ap, ◌∙◌, ◌++◌, drop}
use Rattle.dp_vars.specs.Pieces.{past_all}
use Rattle.dp_vars.specs.steps.Pieces.{past_last}
use Rattle.dp_vars.proofs.PiecesLemmas.{past-reverse}
use Rattle.dp_vars.proofs.pieces.Pieces.read.Goals as goal

pub returns : goal.returns
returns c functions sight =
    let written = ap (past_all functions sight c.args.text.now) c.shrink_to_fit.ensures.items
    ∙ sym (past-reverse functions sight c.args.text.now c.finish-pieces.result.0.items)
    ∙ ap (past_last functions sight c.args.text.now) c.finish-pieces.ensures.pieces in
    let came = c.in_ok-parse.ensures functions sight in
    record {
      bytes = (λ i. (written i).bytes ++ drop (c.finish-pieces.ensures.tail i) c.args.text.now) ∙ came.bytes;
      unknown = ap (λ w. w.unknown) written ∙ came.unknown;
    }
