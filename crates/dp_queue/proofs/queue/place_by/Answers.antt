use Rattle.std.proofs.Common.{◌∙◌, sym}
use Rattle.dp_queue.proofs.StandsLemmas.{position-stands}
use Rattle.dp_queue.proofs.queue.place_by.Goals as goal

pub returns-then-stands_at-clause-place : goal.returns-then-stands_at-clause-place
returns-then-stands_at-clause-place c =
    position-stands c.args.channel c.args.waiting.now.items c.args.hint c.requires (sym c.stands_at.ensures ∙ c.if-stands_at.true)
