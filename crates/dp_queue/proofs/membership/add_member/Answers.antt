use Rattle.std.proofs.Common.{◌≡◌, true, length, ap, ◌∙◌, arith}
use Rattle.dp_conf.specs.Changes.{changed_at}
use Rattle.dp_queue.specs.Members.{is_agent, is_member_at, with_member, without_member}
use Rattle.dp_queue.specs.declared.member.Member.{Member}
use Rattle.dp_queue.proofs.ChangeLemmas.{length-changed_at}
use Rattle.dp_queue.proofs.MemberLemmas.{queues-back}
use Rattle.dp_queue.proofs.membership.add_member.Goals as goal
use borrow.Author.Tests.{eq-eqb}

pub remove_member-requires : goal.remove_member-requires
remove_member-requires c =
    let queues = c.args.queues.now in
    omega (arith, c.requires.within, ap length c.in_ok-push_member.ensures.ok, length-changed_at (with_member c.new_member.result) c.args.number queues)

pub returns-in-Err-clause-err : goal.returns-in-Err-clause-err
returns-in-Err-clause-err c =
    let queues = c.args.queues.now in
    let a = c.number_of-agent.result in
    let is : is_agent a c.new_member.result ≡ true = eq-eqb c.new_member.result.agent a (ap (λ (m : Member). m.agent) c.new_member.ensures) in
    c.remove_member.ensures ∙ ap (changed_at (without_member a) c.args.number) c.in_ok-push_member.ensures.ok
    ∙ queues-back a c.args.number c.new_member.result queues is (ap (is_member_at queues c.args.number) c.number_of-agent.ensures ∙ c.requires.absent)

pub push_member-requires-clause-absent : goal.push_member-requires-clause-absent
push_member-requires-clause-absent c =
    ap (λ (m : Member). is_member_at c.args.queues.now c.args.number m.agent) c.new_member.ensures
    ∙ ap (is_member_at c.args.queues.now c.args.number) c.number_of-agent.ensures ∙ c.requires.absent
