use Rattle.std.proofs.Common.{ℕ, List, None, subst}
use Rattle.dp_program.specs.Dialplans.{text_now}
use Rattle.dp_program.specs.Files.{ByteSource}
use Rattle.dp_program.specs.Serves.{PlacesOf, Quietly, RunsWideAsked, files_read}
use Rattle.dp_program.specs.Texts.{paths_of, sources_of}
use Rattle.dp_program.specs.WideRuns.{manner_of, places_of}
use Rattle.dp_program.proofs.wide_runs.run_alone.Goals as goal

-- the files are those in which the dialplan has this text
pub returns-clause-serves : goal.returns-clause-serves
returns-clause-serves g c =
    let old = g.W.WriteTold.contents c.args.output.now in
    let new = g.W.WriteTold.contents c.run_made.new.output in
    let paths = paths_of c.args.asked.files.now in
    let read = files_read paths (g.F.ReadFiles.source_at c.args.files.now) (text_now c.args.plan.now) None in
    subst (λ (places : PlacesOf). Quietly (RunsWideAsked paths places (sources_of read paths) (manner_of c.args.asked) old new) c.run_made.result) c.places_alone-places.ensures
    (subst (λ (made : List ℕ → ByteSource). Quietly (RunsWideAsked paths (places_of c.places_alone-places.result) (sources_of made paths) (manner_of c.args.asked) old new) c.run_made.result)
    c.made_files-made.ensures c.run_made.ensures.serves)
