use Rattle.std.proofs.Common.{rules, ◌≡◌, ◌↔◌, ◌++◌, ◌∙◌, Contains, List, ap, sym, subst}
use Rattle.dp_plan.specs.Plan.{PlanOf}
use Rattle.dp_audit.specs.FallThroughs.{FallsThrough, fall_through, fall_throughs_of, of_context}
use Rattle.dp_audit.specs.declared.fall_through.FallThrough.{FallThrough}
use Rattle.dp_audit.proofs.FallThroughsLemmas.{told_exactly}
use Rattle.dp_audit.proofs.FindingsLemmas.{contexts_more}
use Rattle.dp_audit.proofs.fall_through.find_fall_throughs.Goals as goal

pub loop-number-preserved : goal.loop-number-preserved
loop-number-preserved c = record {
  found =
      c.in_ok-push_of_context.ensures.found
      ∙ (ap (λ (plan : PlanOf). c.loop-number.list.items ++ of_context plan c.loop-number.number) c.loop-number.invariant.same
      ∙ (ap (λ (before : List FallThrough). before ++ of_context c.in_ok-finder.finder c.loop-number.number) c.loop-number.invariant.found
      ∙ contexts_more (of_context c.in_ok-finder.finder) c.loop-number.number));
  same = c.push_of_context.ensures.same ∙ c.loop-number.invariant.same;
}

-- the same list, as in the clause `exact`
pub returns-clause-each : goal.returns-clause-each
unfolding fall_throughs_of
returns-clause-each c id next =
    let exact : c.loop-number.list.items ≡ fall_throughs_of c.args.plan.now = search rules in
    subst (λ (list : List FallThrough). Contains list (fall_through id next) ↔ FallsThrough c.args.plan.now id next) (sym exact)
    (told_exactly c.args.plan.now c.show_entries_known.ensures.apart id next)
