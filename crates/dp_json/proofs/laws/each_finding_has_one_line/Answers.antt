use Rattle.std.proofs.Common.{refl}
use Rattle.dp_json.specs.Findings.{finding_line, finding_object}
use Rattle.dp_json.specs.Matches.{candidate_line, candidate_object}
use Rattle.dp_json.specs.Notes.{note_line, note_object}
use Rattle.dp_json.specs.WideFindings.{wide_line, wide_object}
use Rattle.dp_json.proofs.LinesLemmas.{count_all}
use Rattle.dp_json.proofs.NoticesLemmas.{count_shown}
use Rattle.dp_json.proofs.laws.each_finding_has_one_line.Goals as goal

pub returns-clause-findings : goal.returns-clause-findings
unfolding finding_line
returns-clause-findings c = λ plan findings. count_all (finding_line plan) (finding_object plan) (λ finding. refl) findings

pub returns-clause-wide : goal.returns-clause-wide
unfolding wide_line
returns-clause-wide c = λ plan findings. count_all (wide_line plan) (wide_object plan) (λ finding. refl) findings

pub returns-clause-candidates : goal.returns-clause-candidates
unfolding candidate_line
returns-clause-candidates c =
    λ plan priority candidates. count_all (candidate_line plan priority) (candidate_object plan priority) (λ candidate. refl) candidates

pub returns-clause-notes : goal.returns-clause-notes
unfolding note_line
returns-clause-notes c = λ notes. count_all note_line note_object (λ note. refl) notes

pub returns-clause-notices : goal.returns-clause-notices
returns-clause-notices c = count_shown
