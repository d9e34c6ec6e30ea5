use Rattle.std.proofs.Common.{ap, subst, ◌∙◌, sym, arith}
use Rattle.dp_queue.specs.steps.Places.{last_place}
use Rattle.dp_queue.proofs.PlacesLemmas.{size_through, before-less}
use Rattle.dp_queue.proofs.WordLemmas.{IsWalkedTo, queue-first, queue-next, queue-found, queue-none}
use Rattle.dp_queue.proofs.queue_list.find_queue.Goals as goal

pub loop-at-init : goal.loop-at-init
loop-at-init c = queue-first c.args.name.now c.args.places.now c.args.queues.now c.requires c.last-at.result
    (c.last-at.ensures ∙ ap (last_place c.args.places.now) c.word_hash.ensures)

pub returns-then-is_worded : goal.returns-then-is_worded
returns-then-is_worded c =
    queue-found c.args.name.now c.args.places.now c.args.queues.now c.requires c.in-Some.number
    (subst (IsWalkedTo c.args.name.now c.args.queues.now) c.in-Some.is c.loop-at.invariant) (sym c.is_worded.ensures ∙ c.if-is_worded.true)

pub loop-at-preserved : goal.loop-at-preserved
loop-at-preserved c =
    queue-next c.args.name.now c.args.places.now c.args.queues.now c.requires c.in-Some.number c.before-at.result
    (subst (IsWalkedTo c.args.name.now c.args.queues.now) c.in-Some.is c.loop-at.invariant) (sym c.is_worded.ensures ∙ c.if-is_worded.false) c.before-at.ensures

pub loop-at-smaller : goal.loop-at-smaller
loop-at-smaller c = omega (arith, before-less c.args.places.now c.in-Some.number c.before-at.result c.before-at.ensures, ap size_through c.in-Some.is)

pub returns : goal.returns
returns c = queue-none c.args.name.now c.args.places.now c.args.queues.now c.requires
    (subst (IsWalkedTo c.args.name.now c.args.queues.now) c.in_default.is c.loop-at.invariant)
