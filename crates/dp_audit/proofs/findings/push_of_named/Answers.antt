use Rattle.std.proofs.Common.{ℕ, Bool, List, [], sym, subst}
use Rattle.dp_lookup.specs.FoundEntry.{entries_at}
use Rattle.dp_audit.specs.Findings.{has_greater, has_lower, some_first}
use Rattle.dp_audit.specs.steps.Firsts.{Adds}
use Rattle.dp_audit.specs.steps.Neighbours.{AreMarks}
use Rattle.dp_audit.proofs.findings.push_of_named.Goals as goal

pub push_of_entries-requires-clause-scene : goal.push_of_entries-requires-clause-scene
push_of_entries-requires-clause-scene g c = rw c.firsts.ensures.same (record {
  order = c.requires.order;
  greater =
      subst (λ (marks : List Bool). AreMarks (has_greater (entries_at c.args.finder.now c.args.number)) (entries_at c.args.finder.now c.args.number) marks)
      (sym c.deref.ensures.value) (rw c.plan-plan.ensures at c.in_ok-greater.ensures);
  lower =
      subst (λ (marks : List Bool). AreMarks (has_lower (entries_at c.args.finder.now c.args.number)) (entries_at c.args.finder.now c.args.number) marks)
      (sym c.deref-2.ensures.value) (rw c.plan-plan.ensures at c.in_ok-lower.ensures);
  firsts =
      subst (λ (order : List ℕ). Adds (some_first c.args.finder.now order) [] c.in_ok-firsts.firsts.keys)
      c.requires.order c.in_ok-firsts.ensures.firsts;
  context = c.requires.context;
})
