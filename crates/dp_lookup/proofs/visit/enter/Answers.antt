use Rattle.std.proofs.Common.{false, true, refl, arith}
use Rattle.dp_lookup.proofs.FillingLemmas.{mark_says, room_left, filling-enter, visited-enter, work-enter, visit-seen}
use Rattle.dp_lookup.proofs.visit.enter.Goals as goal

pub push_reserved-requires : goal.push_reserved-requires
push_reserved-requires c =
    let filling = c.requires.filling in
    let new = mark_says c.args.order.now.items c.args.marks.now c.args.number false filling.marked (omega arith) c.if-not-marks-number.true in
    let room = room_left c.args.plan.now c.args.order.now.items c.args.marks.now c.args.frames.now.items c.args.number filling c.requires.context new in
    omega (arith, room, c.args.order.now.ok)

pub push_reserved-requires-then-not-marks-number : goal.push_reserved-requires-then-not-marks-number
push_reserved-requires-then-not-marks-number c =
    let filling = c.requires.filling in
    let new = mark_says c.args.order.now.items c.args.marks.now c.args.number false filling.marked (omega arith) c.if-not-marks-number.true in
    let room = room_left c.args.plan.now c.args.order.now.items c.args.marks.now c.args.frames.now.items c.args.number filling c.requires.context new in
    let short = filling.short in
    omega (arith, room, short, c.args.frames.now.ok)

pub returns-then-not-marks-number-clause-filling : goal.returns-then-not-marks-number-clause-filling
returns-then-not-marks-number-clause-filling c =
    let filling = c.requires.filling in
    let new = mark_says c.args.order.now.items c.args.marks.now c.args.number false filling.marked (omega arith) c.if-not-marks-number.true in
    rw (c.push_reserved.ensures.items, c.push_reserved-then-not-marks-number.ensures.items)
    (filling-enter c.args.plan.now c.args.order.now.items c.args.marks.now c.args.frames.now.items c.args.number filling c.requires.context (omega arith) new)

pub returns-then-not-marks-number-clause-visited : goal.returns-then-not-marks-number-clause-visited
returns-then-not-marks-number-clause-visited c =
    let filling = c.requires.filling in
    let new = mark_says c.args.order.now.items c.args.marks.now c.args.number false filling.marked (omega arith) c.if-not-marks-number.true in
    rw (c.push_reserved.ensures.items, c.push_reserved-then-not-marks-number.ensures.items)
    (visited-enter c.args.plan.now c.args.order.now.items c.args.frames.now.items c.args.number c.requires.context new)

pub returns-then-not-marks-number-clause-work : goal.returns-then-not-marks-number-clause-work
returns-then-not-marks-number-clause-work c =
    let filling = c.requires.filling in
    let new = mark_says c.args.order.now.items c.args.marks.now c.args.number false filling.marked (omega arith) c.if-not-marks-number.true in
    rw (c.push_reserved.ensures.items, c.push_reserved-then-not-marks-number.ensures.items)
    (work-enter c.args.plan.now c.args.order.now.items c.args.frames.now.items c.args.number c.requires.context new)

pub returns-else-not-marks-number-clause-visited : goal.returns-else-not-marks-number-clause-visited
returns-else-not-marks-number-clause-visited c =
    let filling = c.requires.filling in
    let seen = mark_says c.args.order.now.items c.args.marks.now c.args.number true filling.marked (omega arith) c.if-not-marks-number.false in
    rw (visit-seen c.args.plan.now c.args.order.now.items c.args.number seen) refl
