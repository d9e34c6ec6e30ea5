use Rattle.std.proofs.Common.{List, ap, sym, subst, ◌∙◌}
use Rattle.dp_plan.specs.declared.entry.EntryId.{EntryId}
use Rattle.dp_audit.specs.Loops.{is_before}
use Rattle.dp_audit.specs.steps.Marks.{AreSearched, Marks, with_mark}
use Rattle.dp_audit.specs.steps.Walks.{Closes, IsOpen}
use Rattle.dp_audit.proofs.SearchLemmas.{search_closed, search_open, start_sees}
use Rattle.dp_audit.proofs.loops.Search.search_from.Goals as goal

pub returns-in-Some-clause-searched : goal.returns-in-Some-clause-searched
returns-in-Some-clause-searched g c =
    let onward = g.N.OnwardNames.onward in
    let plan = c.args.finder.now in
    let path = c.walk.new.self.path.items in
    let first = c.in-Some.first in
    let walked = c.in_ok-end.ensures in
    subst (λ (firsts : Marks). AreSearched onward plan c.walk.new.self.seen firsts) (sym (c.set.ensures ∙ ap (with_mark first) walked.firsts))
    (search_closed onward plan c.args.start path c.in_ok-end.end c.args.self.now.seen c.args.self.now.firsts c.walk.new.self.seen
    c.requires walked.walk walked.stop walked.seen first
    (subst (λ (path : List EntryId). Closes is_before path c.in_ok-end.end first) c.deref.ensures.value c.in-Some.ensures))

pub returns-in-Some-clause-seen : goal.returns-in-Some-clause-seen
returns-in-Some-clause-seen g c =
    let walked = c.in_ok-end.ensures in
    start_sees g.N.OnwardNames.onward c.args.finder.now c.args.start c.walk.new.self.path.items c.in_ok-end.end
    c.args.self.now.seen c.args.self.now.firsts c.walk.new.self.seen c.requires walked.walk walked.stop walked.seen

pub returns-in_default-clause-searched : goal.returns-in_default-clause-searched
returns-in_default-clause-searched g c =
    let onward = g.N.OnwardNames.onward in
    let plan = c.args.finder.now in
    let path = c.walk.new.self.path.items in
    let walked = c.in_ok-end.ensures in
    subst (λ (firsts : Marks). AreSearched onward plan c.walk.new.self.seen firsts) (sym walked.firsts)
    (search_open onward plan c.args.start path c.in_ok-end.end c.args.self.now.seen c.args.self.now.firsts c.walk.new.self.seen
    c.requires walked.walk walked.stop walked.seen
    (subst (λ (path : List EntryId). IsOpen path c.in_ok-end.end) c.deref.ensures.value c.in_default.ensures))

pub returns-in_default-clause-seen : goal.returns-in_default-clause-seen
returns-in_default-clause-seen g c =
    let walked = c.in_ok-end.ensures in
    start_sees g.N.OnwardNames.onward c.args.finder.now c.args.start c.walk.new.self.path.items c.in_ok-end.end
    c.args.self.now.seen c.args.self.now.firsts c.walk.new.self.seen c.requires walked.walk walked.stop walked.seen
