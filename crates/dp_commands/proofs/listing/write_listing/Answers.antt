use Rattle.std.proofs.Common.{ap, rules}
use Rattle.std.specs.Result.{is_err}
use Rattle.dp_commands.proofs.SpoolLemmas.{spooled_whole}
use Rattle.dp_commands.proofs.listing.write_listing.Goals as goal

pub returns-clause-ok : goal.returns-clause-ok
returns-clause-ok g c =
    (spooled_whole g.W.WriteTold.contents g.W.WriteTold.has_failed c.args.writer.now c.list.new.self.writer.now _ c.args.block.now c.list.new.self.block.now
    c.new-spool.result.sent c.list.new.self.sent _ c.requires c.list.ensures.empty (ap is_err c.new-spool.ensures.sent) (search rules)
    (rw (c.new-spool.ensures.writer, c.new-spool.ensures.block) at c.list.ensures.lists)).whole
