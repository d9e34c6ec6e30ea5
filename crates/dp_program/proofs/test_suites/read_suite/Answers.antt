use Rattle.std.proofs.Common.{◌≡◌, ◌+◌, ◌∷◌, List, drop, map, sym, ap, subst, ◌∙◌}
use Rattle.std.proofs.lemmas.List.{drop_more}
use Rattle.dp_program.specs.TestSuites.{AreRead, suite_now}
use Rattle.dp_program.specs.TestTexts.{TestText, text_in}
use Rattle.dp_program.specs.declared.texts.TextWithPath.{TextWithPath}
use Rattle.dp_program.proofs.test_suites.read_suite.Goals as goal

-- what follows from the files after this one follows from this one and those
pub loop-source-preserved : goal.loop-source-preserved
loop-source-preserved g c =
    let rest : List TestText = map text_in (drop (c.loop-source.source-index + 1) c.args.sources.now) in
    let split : map text_in (drop c.loop-source.source-index c.args.sources.now) ≡ text_in c.source-item.result ∷ rest =
    ap (map text_in) (drop_more c.args.sources.now c.loop-source.source-index c.source-item.result c.loop-source-test.true)
    ∙ ap (λ (source : TextWithPath). text_in source ∷ rest) (sym c.source-item.is) in
    λ after later. c.loop-source.invariant after
    (subst (λ (texts : List TestText). AreRead (g.F.ReadFiles.source_at c.args.files.now) texts (suite_now c.loop-source.suite) after) (sym split)
    (suite_now c.add_text.new.suite, c.in_ok-add_text.ensures, later))
