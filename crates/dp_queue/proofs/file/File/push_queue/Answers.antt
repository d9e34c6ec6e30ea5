use Rattle.std.proofs.Common.{refl, ap, length, arith}
use Rattle.std.proofs.lemmas.List.{length_push}
use Rattle.dp_queue.specs.File.{queue_named}
use Rattle.dp_queue.proofs.MemberLemmas.{members-queue}
use Rattle.dp_queue.proofs.file.File.push_queue.Goals as goal

pub invariant_of-self-2 : goal.invariant_of-self-2
invariant_of-self-2 c =
    let queue = queue_named c.args.name.now in (
      omega (arith, ap length c.in_ok-push.ensures.ok, length_push c.self.inside.queues queue, ap length c.list-number.ensures),
      members-queue c.self.inside.queues c.push.new.self queue c.self.inside.agents refl c.in_ok-push.ensures.ok c.self.invariant.1,
    )
