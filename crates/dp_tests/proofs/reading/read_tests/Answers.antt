use Rattle.std.proofs.Common.{fold, subst, ap, ◌∙◌}
use Rattle.dp_conf.specs.Answers.{Answers}
use Rattle.dp_tests.specs.Faults.{reason_of}
use Rattle.dp_tests.specs.Files.{lines_of}
use Rattle.dp_tests.specs.steps.Drafts.{drafted_after, draft_result, nothing_drafted}
use Rattle.dp_tests.proofs.DraftsLemmas.{finished-file_in}
use Rattle.dp_tests.proofs.reading.read_tests.Goals as goal

pub returns : goal.returns
returns c =
    let lines = lines_of c.args.text.now in
    let reading = c.in_ok-reading.reading in
    subst (λ given. Answers (λ file. file) reason_of c.finish.result given)
    (ap (λ draft. draft_result draft reading.faults) c.in_ok-reading.ensures.draft
    ∙ (ap (λ faults. draft_result (fold drafted_after nothing_drafted lines) faults) c.in_ok-reading.ensures.faults
    ∙ finished-file_in lines))
    c.finish.ensures
