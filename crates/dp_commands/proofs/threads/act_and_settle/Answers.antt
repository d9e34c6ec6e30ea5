use Rattle.std.proofs.Common.{rules, arith, ◌≡◌, ◌++◌, drop, take, ◌≤◌, All, List, length, map, sym, subst, ◌∙◌}
use Rattle.std.specs.List.{range_with_len}
use Rattle.std.proofs.Math.Seq.{take-append_seam}
use Rattle.dp_board.specs.Settled.{AllPresent}
use Rattle.dp_board.specs.Sittings.{SeatSitting, new_sitting}
use Rattle.dp_commands.specs.Threads.{items_of_seat}
use Rattle.dp_commands.specs.steps.Deals.{GaveFront}
use Rattle.dp_commands.proofs.ThreadsLemmas.{fresh-many, fresh-present, fresh-seats, is-items_of_seat-if, present-kept}
use Rattle.dp_commands.proofs.threads.act_and_settle.Goals as goal

pub act_at_once-requires-clause-some : goal.act_at_once-requires-clause-some
act_at_once-requires-clause-some g c κs within =
    omega (arith, fresh-many c.args.board c.deref_mut.result.now (c.deref_mut.ensures.value ∙ c.requires.seats), c.requires.some)

pub act_at_once-requires-clause-fresh : goal.act_at_once-requires-clause-fresh
act_at_once-requires-clause-fresh g c κs within = fresh-seats c.args.board c.deref_mut.result.now (c.deref_mut.ensures.value ∙ c.requires.seats)

-- the seats keep their numbers while they act
pub settled_history-requires : goal.settled_history-requires
settled_history-requires g c =
    let old = c.deref_mut.result.now in
    let new = c.act_at_once.new.seats in
    let rest = drop (length new) c.args.seats.items in
    let as_many : length new ≡ c.args.seats.len = search rules in
    let now : take c.args.seats.len (new ++ rest) ≡ new = subst (λ n. take n (new ++ rest) ≡ new) as_many (take-append_seam new rest) in
    let open_seats : old ≡ map new_sitting (range_with_len 0 c.args.board) = c.deref_mut.ensures.value ∙ c.requires.seats in
    subst (λ (seats : List SeatSitting). AllPresent c.args.board seats) (sym now)
    (present-kept c.args.board old new (search rules) c.act_at_once.ensures.numbers (fresh-present c.args.board old open_seats))

pub returns-then-have_acted-clause-dealt : goal.returns-then-have_acted-clause-dealt
returns-then-have_acted-clause-dealt g c =
    let seats = c.deref.result.now in
    let count = length c.args.seats.items in
    let same : length seats ≡ count = search rules in
    let many : length c.deref_mut.result.now ≡ count = search rules in
    let acted_on = c.act_at_once.new.seats in
    let rest = drop (length acted_on) c.args.seats.items in
    let as_many : length acted_on ≡ c.args.seats.len = search (rules, many) in
    let now : acted_on ≡ seats = sym (c.deref.ensures.value ∙ subst (λ n. take n (acted_on ++ rest) ≡ acted_on) as_many (take-append_seam acted_on rest)) in
    let fronts : All (GaveFront count c.args.deal.events.now) seats =
    subst (λ (xs : List SeatSitting). All (GaveFront count c.args.deal.events.now) xs) now (subst (λ n. All (GaveFront n c.args.deal.events.now) c.act_at_once.new.seats) many c.act_at_once.ensures.gave) in
    let acted : All (λ (seat : SeatSitting). length (items_of_seat (length seats) seat.number c.args.deal.events.now) ≤ length seat.told) seats = c.have_acted.ensures (search rules) in
    is-items_of_seat-if g.S.Session.opening c.args.board count c.args.deal.events.now seats c.settled_history.result c.requires.some (search rules) (sym (fresh-many c.args.board c.args.seats.items c.requires.seats)) fronts
    (subst (λ n. All (λ (seat : SeatSitting). length (items_of_seat n seat.number c.args.deal.events.now) ≤ length seat.told) seats) same acted)
