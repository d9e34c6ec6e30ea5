use Rattle.std.proofs.Common.{length, slice_get, refl, sym, ap, ◌∙◌, ◌+◌, arith}
use Rattle.std.proofs.lemmas.Option.{slice_get_read}
use Rattle.dp_audit.specs.steps.Hiding.{for_each, for_one, is_among}
use Rattle.dp_audit.proofs.HidingLemmas.{all_below, below, grows_as, grows_both, one_more}
use Rattle.dp_audit.proofs.hidden_entries.Hidings.ask_context.Goals as goal

pub loop-entry-preserved : goal.loop-entry-preserved
loop-entry-preserved c =
    let k = c.loop-entry.entry in
    let entry = c.index-entries-entry.result in
    let places = c.args.places.now.keys in
    let each = for_each c.args.plan.now (is_among places) c.args.number c.args.from in
    let there = ap (λ entries. slice_get entries k) (sym c.entries_at-entries.ensures)
    ∙ slice_get_read c.entries_at-entries.result.now _ k entry refl (omega (arith, c.loop-entry-test.true)) c.index-entries-entry.is in
    grows_both c.args.self.now c.loop-entry.self c.ask_entry.new.self
    (below k each) (for_one places (record { context = c.args.number; entry = k }) entry c.args.from) (below (k + 1) each)
    c.loop-entry.invariant c.in_ok-ask_entry.ensures (one_more c.args.plan.now places c.args.number c.args.from k entry there)

pub returns : goal.returns
returns c =
    let k = c.loop-entry.entry in
    let places = c.args.places.now.keys in
    let each = for_each c.args.plan.now (is_among places) c.args.number c.args.from in
    grows_as c.args.self.now c.loop-entry.self (below k each) each c.loop-entry.invariant
    (all_below c.args.plan.now places c.args.number c.args.from k
    (omega (arith, c.loop-entry-test.false, ap length c.entries_at-entries.ensures)))
