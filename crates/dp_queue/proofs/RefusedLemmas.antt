-- A refused offer leaves the queues as they were.
use Rattle.std.proofs.Common.{◌≡◌, List, ℕ, Result, Ok, Err, refl}
use Rattle.dp_queue.specs.Offers.{asked_at, offer_row, offer_row_at}
use Rattle.dp_queue.specs.Queues.{QueuesOf, queue_number}
use Rattle.dp_queue.specs.declared.fault.OfferFault.{OfferFault}
use Rattle.dp_queue.specs.declared.offer.OfferRequest.{OfferRequest}

offered-refused : (q : QueuesOf) (asked : Result OfferRequest OfferFault) (fault : OfferFault) → (offer_row_at q asked).1 ≡ Err fault → (offer_row_at q asked).0 ≡ q
offered-refused q (Err found) fault is = refl
offered-refused q (Ok asked) fault is = absurd cc

pub offer-refused : (q : QueuesOf) (name : List ℕ) (fault : OfferFault) → (offer_row q name).1 ≡ Err fault → (offer_row q name).0 ≡ q
offer-refused q name = offered-refused q (asked_at q.queues q.agents (queue_number q.queues name))
