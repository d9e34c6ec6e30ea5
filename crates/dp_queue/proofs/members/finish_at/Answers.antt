use Rattle.std.proofs.Common.{◌<◌, length, arith}
use Rattle.dp_queue.specs.Calls.{finished_member}
use Rattle.dp_conf.proofs.ChangesLemmas.{changed_at-set}
use Rattle.dp_queue.proofs.members.finish_at.Goals as goal

pub returns : goal.returns
returns c =
    let items = c.args.members.now.items in
    let within : c.args.place < length items = omega (arith, c.requires, c.args.members.now.ok) in
    changed_at-set (finished_member c.args.agent c.args.count) c.args.place items c.index.result.now _ within c.index.ensures c.finished_member.ensures
