use Rattle.std.proofs.Common.{refl, ap, ◌∙◌, length}
use Rattle.dp_queue.specs.File.{with_queue_setting}
use Rattle.dp_queue.proofs.ChangeLemmas.{length-changed_at}
use Rattle.dp_queue.proofs.MemberLemmas.{keeps-same, members-changed}
use Rattle.dp_queue.proofs.RestLemmas.{within-same}
use Rattle.dp_queue.proofs.file.File.take_pair.Goals as goal

pub invariant_of-self : goal.invariant_of-self
invariant_of-self c =
    let items = c.self.inside.queues in
    let change = with_queue_setting c.in_ok-setting-in-Some.setting in (
      within-same c.self.inside.section (length items) (length c.set.new.self)
          (ap length c.set.ensures ∙ length-changed_at change c.in-Some.number items)
          c.self.invariant.0,
      members-changed change c.in-Some.number items c.set.new.self c.self.inside.agents (keeps-same change (λ q. refl)) c.set.ensures c.self.invariant.1,
    )
