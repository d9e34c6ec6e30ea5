use Rattle.std.proofs.Common.{◌≡◌, IfOk, ap, ◌∙◌, sym, subst}
use Rattle.std.specs.Option.{option_map, option_or}
use Rattle.dp_conf.specs.GroupsRead.{levels}
use Rattle.dp_vars.specs.steps.Expanding.{kinds_of, AreWritten}
use Rattle.dp_vars.specs.Sights.{sight_of}
use Rattle.dp_vars.specs.Unknown.{any_text, read_otherwise}
use Rattle.dp_vars.proofs.ExpandingLemmas.{come, come-mark, come-over, come-text, AreWritten-after}
use Rattle.dp_vars.proofs.UnknownLemmas.{first, first-mark, first-over, first-text}
use Rattle.dp_vars.proofs.template.expand_text_checked.Goals as goal

pub loop-mark-init : goal.loop-mark-init
loop-mark-init g c =
    let functions = g.F.Functions.table in
    let sight = sight_of g.C.Counts.count c.args.scope.now in (
      subst AreWritten (sym c.in_ok-expanding.ensures) tt,
      ap (λ w. come functions sight w.waiting w.bytes (levels c.args.text.now (kinds_of w.waiting) 0)) c.in_ok-expanding.ensures
          ∙ come-text functions sight c.args.text.now,
      ap (λ w. first functions sight w.waiting w.bytes w.unknown (levels c.args.text.now (kinds_of w.waiting) 0)) c.in_ok-expanding.ensures
          ∙ first-text functions sight c.args.text.now,
    )

pub loop-mark-preserved : goal.loop-mark-preserved
loop-mark-preserved g c =
    let functions = g.F.Functions.table in
    let sight = sight_of g.C.Counts.count c.args.scope.now in
    let marked = sym (c.in-Some.ensures.marked (kinds_of c.loop-mark.expanding.waiting) (sym c.innermost.ensures)) in (
      subst AreWritten (sym c.in_ok-take.ensures)
          (AreWritten-after functions sight c.in-Some.mark c.loop-mark.expanding c.loop-mark.invariant.0),
      ap (λ w. come functions sight w.waiting w.bytes (levels c.in-Some.after.now (kinds_of w.waiting) 0)) c.in_ok-take.ensures
          ∙ come-mark functions sight c.in-Some.mark c.loop-mark.expanding (levels c.in-Some.after.now)
          ∙ ap (come functions sight c.loop-mark.expanding.waiting c.loop-mark.expanding.bytes) marked
          ∙ c.loop-mark.invariant.1,
      ap (λ w. first functions sight w.waiting w.bytes w.unknown (levels c.in-Some.after.now (kinds_of w.waiting) 0)) c.in_ok-take.ensures
          ∙ first-mark functions sight c.in-Some.mark c.loop-mark.expanding (levels c.in-Some.after.now)
          ∙ ap (first functions sight c.loop-mark.expanding.waiting c.loop-mark.expanding.bytes c.loop-mark.expanding.unknown) marked
          ∙ c.loop-mark.invariant.2,
    )

pub returns-clause-bytes : goal.returns-clause-bytes
returns-clause-bytes g c =
    let functions = g.F.Functions.table in
    let sight = sight_of g.C.Counts.count c.args.scope.now in
    subst (λ bytes. IfOk c.of.result (λ expanded. expanded.bytes.items ≡ bytes))
    (c.finish.ensures.bytes ∙ sym (come-over functions sight c.loop-mark.expanding.waiting c.loop-mark.expanding.bytes)
    ∙ ap (λ rest. come functions sight c.loop-mark.expanding.waiting c.loop-mark.expanding.bytes
    (levels rest (kinds_of c.loop-mark.expanding.waiting) 0)) (sym c.in_default.ensures.marked)
    ∙ c.loop-mark.invariant.1)
    c.of.ensures.bytes

pub returns-clause-unknown : goal.returns-clause-unknown
returns-clause-unknown g c =
    let functions = g.F.Functions.table in
    let sight = sight_of g.C.Counts.count c.args.scope.now in
    subst (λ unknown. IfOk c.of.result (λ expanded. option_map (λ bytes. bytes.items) expanded.unknown
    ≡ option_or (read_otherwise functions c.args.text.now) unknown))
    (c.finish.ensures.unknown
    ∙ ap any_text (sym (first-over functions sight c.loop-mark.expanding.waiting c.loop-mark.expanding.bytes c.loop-mark.expanding.unknown)
    ∙ ap (λ rest. first functions sight c.loop-mark.expanding.waiting c.loop-mark.expanding.bytes c.loop-mark.expanding.unknown
    (levels rest (kinds_of c.loop-mark.expanding.waiting) 0)) (sym c.in_default.ensures.marked)
    ∙ c.loop-mark.invariant.2))
    c.of.ensures.unknown
