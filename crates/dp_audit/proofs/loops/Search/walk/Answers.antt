use Rattle.std.proofs.Common.{◌≡◌, ◌<◌, List, Option, Some, ap, refl, sym, subst, ◌∙◌}
use Rattle.dp_plan.specs.Plan.{PlanOf}
use Rattle.dp_plan.specs.declared.entry.EntryId.{EntryId}
use Rattle.dp_audit.specs.Loops.{successor}
use Rattle.dp_audit.specs.steps.Marks.{Adds, Marks, unmarked_count, with_mark}
use Rattle.dp_audit.specs.steps.Walks.{IsWalk}
use Rattle.dp_audit.proofs.MarksLemmas.{adds_more, adds_none, unmarked_fewer, unmarked_kept}
use Rattle.dp_audit.proofs.WalkLemmas.{walk_more, walk_none}
use Rattle.dp_audit.proofs.loops.Search.walk.Goals as goal

pub loop-id-init : goal.loop-id-init
loop-id-init g c =
    let step = successor g.N.OnwardNames.onward c.args.finder.now in
    record {
      walk = subst (λ (path : List EntryId). IsWalk step c.args.start path (Some c.args.start)) (sym c.clear.ensures.items) (walk_none step c.args.start);
      seen = subst (λ (path : List EntryId). Adds c.args.self.now.seen path c.args.self.now.seen) (sym c.clear.ensures.items) (adds_none c.args.self.now.seen);
      firsts = refl;
      same = refl;
    }

pub loop-id-smaller : goal.loop-id-smaller
loop-id-smaller g c =
    let seen = c.loop-id.self.seen in
    let kept = unmarked_kept seen c.loop-id.end c.in-Some.id (sym c.keep_unmarked.ensures ∙ c.in-Some.is) in
    subst (λ (marks : Marks). unmarked_count marks < unmarked_count seen) (sym c.set.ensures) (unmarked_fewer c.in-Some.id seen kept.1)

pub loop-id-preserved : goal.loop-id-preserved
loop-id-preserved g c =
    let step = successor g.N.OnwardNames.onward c.args.finder.now in
    let id = c.in-Some.id in
    let seen = c.loop-id.self.seen in
    let path = c.loop-id.self.path.items in
    let old = c.args.self.now.seen in
    let kept = unmarked_kept seen c.loop-id.end id (sym c.keep_unmarked.ensures ∙ c.in-Some.is) in
    let end : c.in_ok-end.end ≡ step id =
    c.in_ok-end.ensures.found ∙ ap (λ (plan : PlanOf). successor g.N.OnwardNames.onward plan id) c.loop-id.invariant.same in
    let more = c.in_ok-push.ensures.items in
    record {
      walk =
          subst (λ (end : Option EntryId). IsWalk step c.args.start c.push.new.self.items end) (sym end)
          (subst (λ (path : List EntryId). IsWalk step c.args.start path (step id)) (sym more)
          (walk_more step c.args.start id path
          (subst (λ (end : Option EntryId). IsWalk step c.args.start path end) kept.0 c.loop-id.invariant.walk)));
      seen =
          subst (λ (marks : Marks). Adds old c.push.new.self.items marks) (sym c.set.ensures)
          (subst (λ (path : List EntryId). Adds old path (with_mark id seen)) (sym more)
          (adds_more old path seen id c.loop-id.invariant.seen kept.1));
      firsts = c.loop-id.invariant.firsts;
      same = c.successor.ensures.same ∙ c.loop-id.invariant.same;
    }
