use Rattle.std.proofs.Common.{List, [], map, ap, subst}
use Rattle.std.proofs.lemmas.Result.{err_from_is_err_and}
use Rattle.dp_program.specs.TestSuites.{MayReport, WritesReport, manner_now}
use Rattle.dp_program.specs.TestTexts.{TestText, text_in}
use Rattle.dp_program.proofs.TestLemmas.{made_written, tests_read, tests_refused}
use Rattle.dp_program.proofs.test_reports.serve_tests.Goals as goal

-- a test file was not read
pub returns-in_err-texts-clause-serves : goal.returns-in_err-texts-clause-serves
returns-in_err-texts-clause-serves g c =
    let p = err_from_is_err_and c.from_residual.result c.from_residual.ensures.1 in
    rw (p.1, p.2) (tests_refused (manner_now c.args.manner) (g.F.ReadFiles.source_at c.args.files.now) [] (map (λ path. path.now) c.args.paths.now) (g.W.WriteTold.contents c.args.output.now) _ c.in_err-texts.ensures.err)

-- the report is on the texts that were read
pub returns-clause-serves : goal.returns-clause-serves
returns-clause-serves g c =
    let manner = manner_now c.args.manner in
    let files = g.F.ReadFiles.source_at c.args.files.now in
    let old = g.W.WriteTold.contents c.args.output.now in
    let new = g.W.WriteTold.contents c.write_made.new.output in
    tests_read manner files [] (map (λ path. path.now) c.args.paths.now) (map text_in c.in_ok-texts.texts.items) old new c.write_made.result c.in_ok-texts.ensures.ok
    (subst (λ (texts : List TestText). WritesReport (MayReport manner files texts) old new c.write_made.result) (ap (map text_in) c.deref.ensures.value)
    (made_written (MayReport manner files (map text_in c.deref.result.now)) c.report_texts-made.result old new c.write_made.result c.report_texts-made.ensures c.write_made.ensures.writes))
