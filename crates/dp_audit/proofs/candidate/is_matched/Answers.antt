use Rattle.std.proofs.Common.{subst}
use Rattle.std.specs.Prelude.{◌↔◌, IsTrue}
use Rattle.dp_pattern.specs.Matches.{Matches}
use Rattle.dp_pattern.specs.Name.{Meaning}
use Rattle.dp_audit.proofs.CandidatesLemmas.{matched_at}
use Rattle.dp_audit.proofs.candidate.is_matched.Goals as goal

pub returns-in-Some : goal.returns-in-Some
returns-in-Some c =
    matched_at c.args.plan.now c.args.text.now c.args.id c.in-Some.entry.now c.matches.result c.in-Some.ensures
    (subst (λ (name : Meaning). IsTrue c.matches.result ↔ Matches name c.args.text.now) c.name.ensures c.matches.ensures)
