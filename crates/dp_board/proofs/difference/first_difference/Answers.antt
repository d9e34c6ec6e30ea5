use Rattle.std.proofs.Common.{rules, ◌≡◌, ◌≢◌, ◌∙◌, ◌==◌, ◌+◌, ◌<◌, List, true, get_or, length, slice_get, Some, refl, sym, ap, drop, take, ◌++◌, arith}
use Rattle.std.proofs.lemmas.List.{at_drop_all}
use Rattle.std.proofs.lemmas.Option.{slice_get_within}
use Rattle.dp_board.specs.Difference.{told_of, told_from, told_to}
use Rattle.dp_board.specs.declared.entry.Entry.{Entry}
use Rattle.dp_board.proofs.DifferenceLemmas.{differs-item, differs-end, own-step, same-own, same-other}
use Rattle.dp_board.proofs.difference.first_difference.Goals as goal
use Rattle.dp_board.proofs.difference.first_difference.Goals.{then-entry-seat+else-not-is_recorded, else-entry-seat}

pub returns-then-not-is_recorded : goal.returns-then-not-is_recorded
returns-then-not-is_recorded c =
    let entry = c.index-entries-place.result in
    let seat = c.args.seat in
    let place = c.loop-place.place in
    let entries = c.args.entries.now in
    let there : get_or entries place entry ≡ entry = search rules in
    let own : (entry.seat == seat) ≡ true = search rules in
    let unlike : slice_get c.args.told.now c.loop-place.index ≢ Some (told_of place entry) = search rules in (
      refl,
      differs-item c.args.told.now (told_from seat (place + 1) (drop (place + 1) entries)) (told_to seat entries) c.loop-place.index (told_of place entry) c.loop-place.invariant.within
          (ap (λ l. take c.loop-place.index c.args.told.now ++ l) (sym (own-step seat place entries entry (search rules) there own)) ∙ c.loop-place.invariant.same) unlike,
    )

pub loop-place-preserved : goal.loop-place-preserved
loop-place-preserved c =
    let entry = c.index-entries-place.result in
    let seat = c.args.seat in
    let place = c.loop-place.place in
    let index = c.loop-place.index in
    let next = c.if-entry-seat.index in
    let entries = c.args.entries.now in
    let told = c.args.told.now in
    let more : place < length entries = search rules in
    let there : get_or entries place entry ≡ entry = search rules in
    elim c.if-entry-seat.branch [
      | then-entry-seat+else-not-is_recorded w ↦
          let recorded : slice_get told index ≡ Some (told_of place entry) = search rules in
          record {
            same = same-own seat place index next entries told (told_to seat entries) entry more there (search rules) recorded (search rules) c.loop-place.invariant.same;
            within = omega (arith, slice_get_within told index (told_of place entry) recorded, w.index-is);
          }
      | else-entry-seat w ↦
          record {
            same = same-other seat place index next entries told (told_to seat entries) entry more there (search rules) (search rules) c.loop-place.invariant.same;
            within = omega (arith, c.loop-place.invariant.within, w.index-is);
          }
    ]

pub returns-then-index-told : goal.returns-then-index-told
returns-then-index-told c =
    let seat = c.args.seat in
    let place = c.loop-place.place in
    let index = c.loop-place.index in
    let entries = c.args.entries.now in
    let told = c.args.told.now in
    let ended = at_drop_all (λ (es : List Entry). take index told ++ told_from seat place es) entries place (search rules) in
    (refl, differs-end told (told_to seat entries) index (search rules) (sym ended ∙ c.loop-place.invariant.same))
