use Rattle.std.proofs.Common.{◌<◌, length, arith}
use Rattle.dp_queue.specs.Members.{paused_member}
use Rattle.dp_conf.proofs.ChangesLemmas.{changed_at-set}
use Rattle.dp_queue.proofs.members.pause_at.Goals as goal

pub returns : goal.returns
returns c =
    let items = c.args.members.now.items in
    let within : c.args.place < length items = omega (arith, c.requires, c.args.members.now.ok) in
    changed_at-set (paused_member c.args.agent c.args.is_paused) c.args.place items c.index.result.now _ within c.index.ensures c.paused_member.ensures
