use Rattle.std.proofs.Common.{List, ℕ, subst}
use Rattle.dp_commands.specs.steps.Streams.{StreamsAll}
use Rattle.dp_commands.specs.Script.{turns_of}
use Rattle.dp_commands.proofs.StreamsLemmas.{Writes-ends, told-ends}
use Rattle.dp_commands.proofs.run.Runner.run.Goals as goal

-- the result of the turns, and what their end wrote, is what the turns write
pub returns-clause-writes : goal.returns-clause-writes
returns-clause-writes g c =
    let old = g.W.WriteTold.contents c.args.writer.now in
    let mid = g.W.WriteTold.contents c.take_all-ran.new.writer in
    let new = g.W.WriteTold.contents c.end.new.writer in
    let waits = c.take_all-ran.new.self.block.whole in
    let turns = turns_of c.args.lines.now in
    let P : List ℕ → Type 0 = λ b. StreamsAll g.T.Taker.step (λ at. g.T.Taker.last at.0) (λ at. g.T.Taker.status at.0) (c.args.self.now.taker, c.args.self.now.machine) turns old b mid waits c.take_all-ran.result in
    Writes-ends g.T.Taker.step (λ at. g.T.Taker.last at.0) (λ at. g.T.Taker.status at.0) (c.args.self.now.taker, c.args.self.now.machine) turns old mid new waits c.take_all-ran.result c.end.result (subst P c.requires c.take_all-ran.ensures.streams) c.end.ensures.ends

-- and so is whether a write failed
pub returns-clause-told : goal.returns-clause-told
returns-clause-told g c =
    told-ends (g.W.WriteTold.contents c.take_all-ran.new.writer) (g.W.WriteTold.contents c.end.new.writer) c.take_all-ran.new.self.block.whole c.take_all-ran.result c.end.result
    (g.W.WriteTold.has_failed c.args.writer.now) (g.W.WriteTold.has_failed c.take_all-ran.new.writer) (g.W.WriteTold.has_failed c.end.new.writer)
    c.end.ensures.ends c.take_all-ran.ensures.told c.end.ensures.told
