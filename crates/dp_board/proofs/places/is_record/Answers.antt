use Rattle.std.proofs.Common.{rules, ◌≡◌, ◌<◌, length, get_or, slice_get, refl, sym, ap, ◌∙◌, arith, true≢false}
use Rattle.std.proofs.lemmas.Bool.{eq-eqb, eqb-true}
use Rattle.dp_board.proofs.PlacesLemmas.{StandBefore-all, StandBefore-more, StandBefore-reaches, place-within, told-stands}
use Rattle.dp_board.proofs.places.is_record.Goals as goal
use Rattle.dp_board.proofs.places.is_record.Goals.{then-call-next-via-then-call-next}
use Rattle.dp_board.proofs.places.is_record.Goals.{then-call-next-via-else-call-next+then-not-is_told_at_place}

-- no record that has the seat's entries has a call before the next place, or one that is not its entry's
pub returns-then-call-next : goal.returns-then-call-next
returns-then-call-next c =
    let seat = c.args.seat in
    let entries = c.args.entries.now in
    let told = c.args.told.now in
    let call = c.call-item.result in
    let count = c.loop-call.call-index in
    let more : count < length told = c.loop-call-test.true in
    let there : get_or told count call ≡ call = search rules in
    elim c.then-call-next.branch [
      | then-call-next-via-then-call-next w ↦ (
        λ no. absurd (true≢false (sym no)),
        λ same.
            let reaches = StandBefore-reaches seat entries told count c.loop-call.next call c.loop-call.invariant same more there in
            absurd (omega (arith, reaches, w.if-call-next.true)),
      )
      | then-call-next-via-else-call-next+then-not-is_told_at_place w ↦ (
        λ no. absurd (true≢false (sym no)),
        λ same.
            let stands = w.is_told_at_place.ensures.1 (told-stands seat entries told count call same more there) in
            absurd (true≢false (sym stands ∙ w.if-not-is_told_at_place.true)),
      )
    ]

pub overflow_add-next : goal.overflow_add-next
overflow_add-next c =
    let call = c.call-item.result in
    let entries = c.args.entries.now in
    let is = c.is_told_at_place.ensures.0 c.if-not-is_told_at_place.false in
    let within : call.place < length entries = place-within c.args.seat entries call (slice_get entries call.place) refl is in
    search rules

pub loop-call-preserved : goal.loop-call-preserved
loop-call-preserved c =
    let call = c.call-item.result in
    let entries = c.args.entries.now in
    let told = c.args.told.now in
    let count = c.loop-call.call-index in
    let there : get_or told count call ≡ call = search rules in
    let is = c.is_told_at_place.ensures.0 c.if-not-is_told_at_place.false in
    StandBefore-more c.args.seat entries told count c.loop-call.next call (slice_get entries call.place) refl is c.loop-call.invariant
    c.if-call-next.false c.loop-call-test.true there

pub returns : goal.returns
returns c =
    let told = c.args.told.now in
    let count = c.args.count in (
      λ counted.
          let len = eqb-true (length told) count counted ∙ c.requires in
          StandBefore-all c.args.seat c.args.entries.now told c.loop-call.call-index c.loop-call.next c.loop-call.invariant
          c.loop-call-test.false len,
      λ same. eq-eqb (length told) count (sym (ap length same) ∙ sym c.requires),
    )
