use Rattle.std.proofs.Common.{◌++◌, List, ap, ◌∙◌}
use Rattle.std.specs.List.{flat_map}
use Rattle.dp_notices.specs.Loading.{LoadedOf, loading_now, note_at_source}
use Rattle.dp_notices.specs.declared.line_notices.NoticeAt.{NoticeAt}
use Rattle.dp_notices.proofs.LoadingLemmas.{faultless}
use Rattle.dp_notices.proofs.loading.load_faultless.Goals as goal

-- no line has a fault, so the lines stay as they are
pub returns : goal.returns
returns c =
    ap (λ (notices : List NoticeAt). let loaded : LoadedOf = record { lines = c.args.lines.items; notices = notices; counts = c.args.loading.now.counts } in loaded)
    (c.in_ok-push_notes.ensures
    ∙ (λ i. c.new-notices.ensures.items i ++ flat_map (note_at_source (c.deref.ensures.value i)) (c.deref-2.ensures.value i)))
    ∙ faultless c.args.lines.items (loading_now c.args.loading.now) c.show_faults_decide_loading.ensures.first c.show_faults_decide_loading.ensures.text c.requires
