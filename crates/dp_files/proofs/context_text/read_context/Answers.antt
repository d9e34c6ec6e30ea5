use Rattle.std.proofs.Common.{◌≡◌, [], ◌++◌, ap, ◌∙◌, sym}
use Rattle.std.specs.List.{flat_map}
use Rattle.dp_files.specs.ContextHistory.{LineHistoryOf}
use Rattle.dp_files.specs.ContextLines.{all_made, context_lines, context_remarks, made_line, remark_on, section_lines}
use Rattle.dp_files.specs.ContextSteps.{all_made_after, history_in}
use Rattle.dp_files.proofs.HistoryLemmas.{made_by_history}
use Rattle.dp_files.proofs.context_text.read_context.Goals as goal

-- before the first line there is no result, and the history is that of no lines
pub loop-place-init : goal.loop-place-init
unfolding context_lines context_remarks
loop-place-init c =
    let lines = section_lines c.args.lines.now c.args.places.now in
    let same : all_made_after (history_in c.new.result) lines ≡ all_made [] lines =
    ap (λ (history : LineHistoryOf). all_made_after history lines) c.new.ensures ∙ sym (made_by_history [] lines) in
    (λ i. (c.new-2.ensures.lines i ++ flat_map made_line (same i), c.new-2.ensures.remarks i ++ flat_map remark_on (same i)))
