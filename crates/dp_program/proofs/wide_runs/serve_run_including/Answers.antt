use Rattle.std.proofs.Common.{◌∙◌, Err, ap, sym, subst}
use Rattle.std.specs.Option.{option_map}
use Rattle.dp_program.specs.Faulted.{nowhere}
use Rattle.dp_program.specs.Serves.{RunsAssuming, RunsIncluding, reading_by}
use Rattle.dp_program.specs.Texts.{paths_of}
use Rattle.dp_program.specs.WideRuns.{manner_of}
use Rattle.dp_program.specs.declared.fault_places.Faulted.{Faulted}
use Rattle.dp_program.proofs.ServesLemmas.{including_lacks}
use Rattle.dp_program.proofs.wide_runs.serve_run_including.Goals as goal

-- the script was read for what it assumes
pub returns-in-Ok-clause-serves : goal.returns-in-Ok-clause-serves
returns-in-Ok-clause-serves g c =
    let clock = option_map (λ word. word.now) c.args.asked.clock in
    let script = c.in-Ok.ensures in
    record {
      text = script.text;
      given = script.given;
      holds = subst (λ assumed. RunsAssuming (reading_by clock assumed) (paths_of c.args.asked.files.now) (g.F.ReadFiles.source_at c.args.files.now) (manner_of c.args.asked) (g.W.WriteTold.contents c.args.output.now) (g.W.WriteTold.contents c.serve_run_assuming.new.output) c.serve_run_assuming.result)
          script.holds c.serve_run_assuming.ensures.serves;
    }

-- memory ran out
pub returns-in-Err-clause-serves : goal.returns-in-Err-clause-serves
returns-in-Err-clause-serves g c =
    let clock = option_map (λ word. word.now) c.args.asked.clock in
    let paths = paths_of c.args.asked.files.now in
    let files = g.F.ReadFiles.source_at c.args.files.now in
    let manner = manner_of c.args.asked in
    let old = g.W.WriteTold.contents c.args.output.now in
    subst (λ (faulted : Faulted). RunsIncluding clock paths files manner old old (Err faulted)) (sym (c.from-in-Err.ensures ∙ ap nowhere c.from.ensures))
    (including_lacks clock paths files manner old)
