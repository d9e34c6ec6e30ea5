use Rattle.std.proofs.Common.{rules, ◌≡◌, ◌+◌, ◌<◌, ◌∷◌, ◌++◌, [], List, length, take, get_or, set, true, refl, sym, ap, subst, ◌∙◌, arith}
use Rattle.std.proofs.lemmas.List.{take_more, length-set}
use Rattle.dp_board.specs.steps.Presence.{MarksSeats}
use Rattle.dp_board.specs.Sittings.{SeatSitting}
use Rattle.dp_board.proofs.PresenceLemmas.{MarksSeats-more, unmarked-set}
use Rattle.dp_board.proofs.presence.mark_seats.Goals as goal

pub loop-i-preserved : goal.loop-i-preserved
loop-i-preserved g c =
    let i = c.loop-i.i in
    let seats = c.args.seats.now in
    let seat = c.index-seats-i.result in
    let now = c.loop-i.present in
    let old = c.args.present.now in
    let number = c.number-number.result in
    let new = set now number true in
    let len = c.loop-i.invariant.len in
    let there : get_or seats i seat ≡ seat = search rules in
    let more : take (i + 1) seats ≡ take i seats ++ seat ∷ [] = take_more seats i seat c.loop-i-test.true ∙ ap (λ (s : SeatSitting). take i seats ++ s ∷ []) there in
    let within : seat.number < length old = omega (arith, c.number-number.ensures.bound, c.number-number.ensures.number, c.requires) in
    record {
      len = length-set now number true ∙ len;
      marks = subst (λ (xs : List SeatSitting). MarksSeats old xs new) (sym more) (MarksSeats-more old now new (take i seats) seat len c.loop-i.invariant.marks within (ap (λ k. set now k true) c.number-number.ensures.number));
      count = omega (arith, unmarked-set now new number (omega (arith, within, len, c.number-number.ensures.number)) refl, c.loop-i.invariant.count);
    }
