use Rattle.std.proofs.Common.{◌≡◌, ◌<◌}
use Rattle.dp_plan.specs.declared.entry.EntryId.{EntryId}
use Rattle.dp_audit.specs.steps.Marks.{AreSearched, Sees}
use Rattle.dp_audit.proofs.loops.Search.search_all.Given as goal

abbrev pub invariant-loop-number : goal.invariant-loop-number
invariant-loop-number g l = record {
  searched : AreSearched g.N.OnwardNames.onward l.initial.finder l.self.seen l.self.firsts;
  seen : Sees l.initial.finder l.initial.self.seen l.self.seen (λ (id : EntryId). id.context < l.number);
  same : l.finder ≡ l.initial.finder;
}
