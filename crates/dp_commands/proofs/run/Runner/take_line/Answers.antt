use Rattle.std.proofs.Common.{◌≡◌, ◌+◌, ◌-◌, List, [], ◌∷◌, ◌++◌, replicate, ap, ◌∙◌, arith}
use Rattle.std.proofs.lemmas.List.{replicate-append-replicate}
use Rattle.std.proofs.Math.Bool.{or-false}
use Rattle.std.proofs.lemmas.Result.{err_from_is_err_and}
use Rattle.dp_commands.proofs.RunnersLemmas.{Takes-goes_on, Takes-stops}
use Rattle.dp_commands.proofs.run.Runner.take_line.Goals as goal

-- a turn stopped after the others
pub returns-in_err-refused-clause-streams : goal.returns-in_err-refused-clause-streams
returns-in_err-refused-clause-streams g c =
    let x = c.args.line.now.turn in
    let i = c.loop-turn._turn in
    let count = c.args.line.now.count in
    let left = count - (i + 1) in
    let all : (i + 1) + left ≡ count = omega (arith, c.loop-turn-test.true) in
    let whole : (replicate i x ++ x ∷ []) ++ replicate left x ≡ replicate count x =
    ap (λ (ts : List _). ts ++ replicate left x) (replicate-append-replicate i 1 x) ∙ (replicate-append-replicate (i + 1) left x ∙ ap (λ n. replicate n x) all) in
    let p = err_from_is_err_and c.from_residual.result c.from_residual.ensures.1 in
    rw (p.1, p.2) (Takes-stops g.T.Taker.step (replicate i x) (x ∷ []) (replicate count x) (g.W.WriteTold.contents c.args.writer.now)
    (g.W.WriteTold.contents c.loop-turn.writer) (g.W.WriteTold.contents c.take_turn.new.writer) c.args.self.now c.loop-turn.self c.take_turn.new.self c.loop-turn.refused
    (replicate left x) c.in_err-refused.field-0.0 whole c.loop-turn.invariant.streams c.in_err-refused.ensures.streams)

-- a turn continues after the others
pub loop-turn-preserved : goal.loop-turn-preserved
loop-turn-preserved g c =
    let x = c.args.line.now.turn in
    let i = c.loop-turn._turn in
    record {
      streams = Takes-goes_on g.T.Taker.step (replicate i x) (x ∷ []) (replicate (i + 1) x) (g.W.WriteTold.contents c.args.writer.now)
          (g.W.WriteTold.contents c.loop-turn.writer) (g.W.WriteTold.contents c.take_turn.new.writer) c.args.self.now c.loop-turn.self c.take_turn.new.self c.loop-turn.refused
          c.in_ok-refused.field-0 (replicate-append-replicate i 1 x) c.loop-turn.invariant.streams c.in_ok-refused.ensures.streams;
      told = c.in_ok-refused.ensures.told ∙ (or-false (g.W.WriteTold.has_failed c.loop-turn.writer) ∙ c.loop-turn.invariant.told);
    }
