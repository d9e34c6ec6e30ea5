use Rattle.std.proofs.Common.{ℕ, List, Err, sym, subst}
use Rattle.dp_program.specs.Dialplans.{text_now}
use Rattle.dp_program.specs.Files.{ByteSource}
use Rattle.dp_program.specs.QueueTexts.{ReadsQueues}
use Rattle.dp_program.specs.Serves.{RunsPlan}
use Rattle.dp_program.specs.Texts.{paths_of}
use Rattle.dp_program.specs.WideRuns.{manner_of, reading_of}
use Rattle.dp_program.specs.declared.fault_places.Faulted.{Faulted}
use Rattle.dp_program.proofs.QueueLemmas.{queues_refused}
use Rattle.dp_program.proofs.ServesLemmas.{plan_lacks}
use Rattle.dp_program.proofs.wide_runs.run_after_queues.Goals as goal

-- the first file of the queues could not be read
pub returns-in-Err-clause-serves : goal.returns-in-Err-clause-serves
returns-in-Err-clause-serves g c =
    let files = g.F.ReadFiles.source_at c.args.files.now in
    let path = c.args.first.path.now in
    let reading = reading_of c.args.asked in
    let paths = paths_of c.args.asked.files.now in
    let manner = manner_of c.args.asked in
    let old = g.W.WriteTold.contents c.args.output.now in
    let plan = text_now c.args.first.plan.now in
    subst (λ (faulted : Faulted). ReadsQueues files path (λ (files : List ℕ → ByteSource). RunsPlan reading paths files manner old old plan) old old (Err faulted)) (sym c.from.ensures)
    (queues_refused files path (λ (files : List ℕ → ByteSource). RunsPlan reading paths files manner old old plan) old (λ files. plan_lacks reading paths files manner old plan) _
    c.in-Err.ensures.path c.in-Err.ensures.read)
