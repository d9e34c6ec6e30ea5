use Rattle.std.proofs.Common.{◌≡◌, Some, refl, sym, ap, ◌∙◌, length, slice_get, arith}
use Rattle.std.proofs.lemmas.Option.{slice_get_read}
use Rattle.dp_queue.proofs.OfferLemmas.{unrung-same, stands-waits}
use Rattle.dp_queue.proofs.offer.ask.Goals as goal

pub ask_in-requires : goal.ask_in-requires
ask_in-requires c =
    let queues = c.args.queues.now in
    let list = c.list.result.now in
    let number = c.in-Some.number in
    let q = c.index-list-number.result in
    let here : slice_get queues number ≡ Some q =
    ap (λ qs. slice_get qs number) (sym c.list.ensures)
    ∙ slice_get_read list (length list) number q refl (omega (arith, c.in-Some.ensures.within, ap length c.list.ensures)) c.index-list-number.is in
    unrung-same c.args.seats.now queues c.args.agents.now q.waiting c.requires (λ d stands. stands-waits queues number q d here stands)
