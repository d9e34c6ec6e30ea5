use Rattle.std.proofs.Common.{◌≡◌, ◌<◌, Some, false, refl, sym, ap, ◌∙◌, length, slice_get, arith}
use Rattle.std.proofs.lemmas.Option.{slice_get_read}
use Rattle.std.specs.Option.{option_map, unwrap_or}
use Rattle.dp_queue.specs.Members.{has_member, with_member}
use Rattle.dp_conf.proofs.ChangesLemmas.{changed_at-set}
use Rattle.dp_queue.proofs.ChangeLemmas.{on_ok}
use Rattle.dp_queue.proofs.queue_list.push_member_at.Goals as goal

pub push_member-requires : goal.push_member-requires
push_member-requires c =
    let items = c.args.queues.now.items in
    let q = c.index_mut-queue.result.now in
    let here : slice_get items c.args.number ≡ Some q =
    slice_get_read items (length items) c.args.number q refl (omega (arith, c.requires.within, c.args.queues.now.ok)) c.index_mut-queue.ensures.value in
    ap (λ o. unwrap_or (option_map (has_member c.args.member.agent) o) false) (sym here) ∙ c.requires.absent

pub returns-clause-ok : goal.returns-clause-ok
returns-clause-ok c =
    let within : c.args.number < length c.args.queues.now.items = omega (arith, c.requires.within, c.args.queues.now.ok) in
    on_ok c.push_member.result
    (λ added. changed_at-set (with_member c.args.member) c.args.number c.args.queues.now.items c.index_mut-queue.result.now
    c.push_member.new.self within c.index_mut-queue.ensures.value added)
    c.push_member.ensures.ok
