use Rattle.std.proofs.Common.{rules, ◌≡◌, ◌+◌, ◌<◌, ◌∷◌, ◌++◌, [], List, length, take, get_or, set, refl, sym, ap, subst, ◌∙◌, arith}
use Rattle.std.proofs.lemmas.List.{take_more, length-set, length-take-le}
use Rattle.dp_board.specs.declared.entry.Entry.{Entry}
use Rattle.dp_board.specs.steps.Places.{CountsEntries}
use Rattle.dp_board.proofs.PlacesLemmas.{CountsEntries-more, CountsEntries-none, told_from-few}
use Rattle.dp_board.proofs.places.count_entries.Goals as goal

pub loop-entry-init : goal.loop-entry-init
loop-entry-init c = record { len = refl; counts = CountsEntries-none c.args.counts.now (length c.args.counts.now) c.requires.fresh }

-- a seat has no more entries than were counted
pub overflow_add-counts : goal.overflow_add-counts
overflow_add-counts c =
    let i = c.loop-entry.entry-index in
    let entries = c.args.entries.now in
    let seat = c.entry-item.result.seat in
    let within : seat < length c.loop-entry.counts = search rules in
    omega (arith, c.loop-entry.invariant.counts seat within, told_from-few seat 0 (take i entries), length-take-le i entries (search rules))

pub loop-entry-preserved : goal.loop-entry-preserved
loop-entry-preserved c =
    let i = c.loop-entry.entry-index in
    let entries = c.args.entries.now in
    let entry = c.entry-item.result in
    let now = c.loop-entry.counts in
    let one = get_or now entry.seat 0 + 1 in
    let new = set now entry.seat one in
    let len : length new ≡ length now = length-set now entry.seat one in
    let there : get_or entries i entry ≡ entry = search rules in
    let more : take (i + 1) entries ≡ take i entries ++ entry ∷ [] =
    take_more entries i entry c.loop-entry-test.true ∙ ap (λ (e : Entry). take i entries ++ e ∷ []) there in
    let within : entry.seat < length now = search rules in
    let counted = CountsEntries-more now (take i entries) entry new c.loop-entry.invariant.counts within refl len in
    record {
      len = len ∙ c.loop-entry.invariant.len;
      counts = subst (λ (es : List Entry). CountsEntries es new) (sym more) counted;
    }
