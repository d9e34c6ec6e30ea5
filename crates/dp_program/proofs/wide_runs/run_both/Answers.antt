use Rattle.std.proofs.Common.{ℕ, List, Some, ap, subst, ◌∙◌}
use Rattle.dp_program.specs.Dialplans.{text_now, with_text}
use Rattle.dp_program.specs.Files.{ByteSource}
use Rattle.dp_program.specs.Serves.{PlacesOf, Quietly, RunsWideAsked, files_read}
use Rattle.dp_program.specs.Texts.{paths_of, sources_of}
use Rattle.dp_program.specs.WideRuns.{manner_of, places_of}
use Rattle.dp_program.proofs.wide_runs.run_both.Goals as goal

-- the files are those in which both dialplans have these texts
pub returns-clause-serves : goal.returns-clause-serves
returns-clause-serves g c =
    let old = g.W.WriteTold.contents c.args.output.now in
    let new = g.W.WriteTold.contents c.run_made.new.output in
    let paths = paths_of c.args.asked.files.now in
    let second = text_now c.args.plans.second_plan.now in
    let read = files_read paths (g.F.ReadFiles.source_at c.args.files.now) (text_now c.args.plans.plan.now) (Some (c.args.plans.path.now, second)) in
    let both = c.made_files-both.ensures ∙ ap (λ (files : List ℕ → ByteSource). with_text files c.args.plans.path.now second.text) c.made_files-made.ensures in
    subst (λ (places : PlacesOf). Quietly (RunsWideAsked paths places (sources_of read paths) (manner_of c.args.asked) old new) c.run_made.result) c.places_of_both-places.ensures
    (subst (λ (made : List ℕ → ByteSource). Quietly (RunsWideAsked paths (places_of c.places_of_both-places.result) (sources_of made paths) (manner_of c.args.asked) old new) c.run_made.result)
    both c.run_made.ensures.serves)
