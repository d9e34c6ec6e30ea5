use Rattle.dp_wide_duties.proofs.LeadingLemmas.{dial-options, member-runs, page-options, queue-options}
use Rattle.dp_wide_duties.proofs.laws.what_options_run_is_covered.Goals as goal

pub returns-clause-dial : goal.returns-clause-dial
returns-clause-dial c = dial-options

pub returns-clause-queue : goal.returns-clause-queue
returns-clause-queue c = queue-options

pub returns-clause-page : goal.returns-clause-page
returns-clause-page c = page-options

pub returns-clause-member : goal.returns-clause-member
returns-clause-member c = member-runs
