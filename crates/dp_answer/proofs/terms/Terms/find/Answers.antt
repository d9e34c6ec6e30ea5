use Rattle.std.proofs.Common.{subst, sym}
use Rattle.dp_app.specs.Rows.{with_functions}
use Rattle.dp_answer.proofs.AnswerLemmas.{runs-told}
use Rattle.dp_closed.specs.Answers.{shown_outside}
use Rattle.dp_closed.specs.Claimed.{AreWays}
use Rattle.dp_answer.proofs.terms.Terms.find.Goals as goal

pub returns : goal.returns
returns g c = λ settings ways. runs-told (with_functions g.T.AppTable.rows g.T.Functions.Functions.table) (shown_outside c.args.self.now.outside) c.args.context.now c.args.plan.now settings c.in_ok-found.found.is_proved
    c.in_ok-found.found.search.marks (λ proved. c.in_ok-found.ensures proved settings (subst (AreWays settings) (sym c.deref.ensures.value) ways))
