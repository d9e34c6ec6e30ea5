use Rattle.std.proofs.Common.{◌≡◌, ◌↔◌, true, sym, subst}
use Rattle.dp_plan.specs.Plan.{PlanOf}
use Rattle.dp_plan.specs.declared.entry.EntryId.{EntryId}
use Rattle.dp_audit.specs.Loops.{IsLoop}
use Rattle.dp_audit.specs.steps.Marks.{AreSearched, Marks, is_marked, no_marks}
use Rattle.dp_audit.proofs.SearchLemmas.{search_done, search_none}
use Rattle.dp_audit.proofs.loops.Search.of.Goals as goal

pub search_all-requires : goal.search_all-requires
search_all-requires g c =
    let onward = g.N.OnwardNames.onward in
    let plan = c.args.plan.now in
    let none = no_marks plan.contexts in
    let search = c.in_ok-search.search in
    subst (λ (held : PlanOf). AreSearched onward held search.seen search.firsts) (sym (c.in_ok-finder.ensures {u = tt}))
    (subst (λ (seen : Marks). AreSearched onward plan seen search.firsts) (sym c.in_ok-search.ensures.seen)
    (subst (λ (firsts : Marks). AreSearched onward plan none firsts) (sym c.in_ok-search.ensures.firsts) (search_none onward plan)))

pub returns : goal.returns
returns g c =
    let onward = g.N.OnwardNames.onward in
    let search = c.search_all.new.self in
    let done = c.in_ok-search_all.ensures in
    subst (λ (plan : PlanOf). (id : EntryId) → (is_marked search.firsts id ≡ true) ↔ IsLoop onward plan id) (c.in_ok-finder.ensures {u = tt})
    (search_done onward c.in_ok-finder.finder c.in_ok-search.search.seen search.seen search.firsts done.searched done.seen)
