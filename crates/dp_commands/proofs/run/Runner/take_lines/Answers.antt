use Rattle.std.proofs.Common.{◌≡◌, ◌+◌, List, [], ◌∷◌, ◌++◌, take, drop, sym, ap, ◌∙◌}
use Rattle.std.proofs.lemmas.List.{append-nil, take-append-drop, take_more}
use Rattle.std.proofs.lemmas.Grind.{flat_map-append}
use Rattle.std.proofs.Math.Bool.{or-false}
use Rattle.std.proofs.lemmas.Result.{err_from_is_err_and}
use Rattle.dp_commands.specs.Script.{line_turns, turns_of}
use Rattle.dp_commands.specs.declared.script.ScriptLine.{ScriptLine}
use Rattle.dp_commands.proofs.RunnersLemmas.{Takes-goes_on, Takes-stops}
use Rattle.dp_commands.proofs.run.Runner.take_lines.Goals as goal

-- the turns of some lines and of one more
turns_of-push : {U : Type 0} (lines : List (ScriptLine U)) (line : ScriptLine U) → turns_of (lines ++ line ∷ []) ≡ turns_of lines ++ line_turns line
turns_of-push lines line = flat_map-append line_turns lines (line ∷ []) ∙ ap (λ (ts : List _). turns_of lines ++ ts) (append-nil (line_turns line))

-- a line stopped after the others
pub returns-in_err-refused-clause-streams : goal.returns-in_err-refused-clause-streams
returns-in_err-refused-clause-streams g c =
    let lines = c.args.lines.now in
    let i = c.loop-line.line-index in
    let line = c.line-item.result in
    let rest = turns_of (drop (i + 1) lines) in
    let more : take (i + 1) lines ≡ take i lines ++ line ∷ [] = take_more lines i line c.loop-line-test.true ∙ ap (λ l. take i lines ++ l ∷ []) (sym c.line-item.is) in
    let whole : (turns_of (take i lines) ++ line_turns line) ++ rest ≡ turns_of lines =
    ap (λ (ts : List _). ts ++ rest) (sym (ap turns_of more ∙ turns_of-push (take i lines) line))
    ∙ (sym (flat_map-append line_turns (take (i + 1) lines) (drop (i + 1) lines)) ∙ ap turns_of (take-append-drop (i + 1) lines)) in
    let p = err_from_is_err_and c.from_residual.result c.from_residual.ensures.1 in
    rw (p.1, p.2) (Takes-stops g.T.Taker.step (turns_of (take i lines)) (line_turns line) (turns_of lines) (g.W.WriteTold.contents c.args.writer.now)
    (g.W.WriteTold.contents c.loop-line.writer) (g.W.WriteTold.contents c.take_line.new.writer) c.args.self.now c.loop-line.self c.take_line.new.self c.loop-line.refused
    rest c.in_err-refused.field-0.0 whole c.loop-line.invariant.streams c.in_err-refused.ensures.streams)

-- a line continues after the others
pub loop-line-preserved : goal.loop-line-preserved
loop-line-preserved g c =
    let lines = c.args.lines.now in
    let i = c.loop-line.line-index in
    let line = c.line-item.result in
    let more : take (i + 1) lines ≡ take i lines ++ line ∷ [] = take_more lines i line c.loop-line-test.true ∙ ap (λ l. take i lines ++ l ∷ []) (sym c.line-item.is) in
    record {
      streams = Takes-goes_on g.T.Taker.step (turns_of (take i lines)) (line_turns line) (turns_of (take (i + 1) lines)) (g.W.WriteTold.contents c.args.writer.now)
          (g.W.WriteTold.contents c.loop-line.writer) (g.W.WriteTold.contents c.take_line.new.writer) c.args.self.now c.loop-line.self c.take_line.new.self c.loop-line.refused
          c.in_ok-refused.field-0 (sym (ap turns_of more ∙ turns_of-push (take i lines) line)) c.loop-line.invariant.streams c.in_ok-refused.ensures.streams;
      told = c.in_ok-refused.ensures.told ∙ (or-false (g.W.WriteTold.has_failed c.loop-line.writer) ∙ c.loop-line.invariant.told);
    }
